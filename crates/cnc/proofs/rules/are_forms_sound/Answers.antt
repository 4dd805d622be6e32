-- The forms are looked at one by one.
use Rattle.std.proofs.Common.{◌∙◌, rules}
use Rattle.std.proofs.lemmas.Iterator.{YieldsList-from_range}
use Rattle.std.proofs.lemmas.Iterator.Search.{all_from_yields_List}
use borrow.Author.Tests.{tests}
use Rattle.view.specs.Views.{image}
use Rattle.demands.specs.Check.{form_sound}
use Rattle.cnc.proofs.Runs.{every_all}
use Rattle.cnc.proofs.rules.are_forms_sound.Goals as goal

pub returns : goal.returns
returns c =
    let sound = form_sound (image c.args.view.now) c.args.rule in
    all_from_yields_List sound _ _ _ c.all.ensures.ran (YieldsList-from_range 0 3 3 (search rules) (search rules)) (λ x b q k. search (rules, tests)) ∙ every_all sound 3
