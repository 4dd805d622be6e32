-- The functions are looked at one by one.
use Rattle.std.proofs.Common.{◌∙◌, rules}
use Rattle.std.proofs.lemmas.Iterator.{YieldsList-from_slice}
use Rattle.std.proofs.lemmas.Iterator.Search.{all_from_yields_List}
use borrow.Author.Tests.{tests}
use Rattle.grammar.specs.Tables.{typed, listed}
use Rattle.notation.specs.Checks.{function_fits}
use Rattle.notation.specs.Checked.{fit_all}
use Rattle.notation.proofs.check.functions_fit.Goals as goal

pub returns : goal.returns
returns c =
    let n = c.args.limit in
    all_from_yields_List (λ f. function_fits n (typed f)) _ _ _ c.all.ensures.ran (YieldsList-from_slice (listed c.args.table.now) cc) (λ x b q k. search (rules, tests)) ∙ fit_all n (listed c.args.table.now)
