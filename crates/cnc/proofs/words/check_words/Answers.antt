-- The words are checked one by one.
use Rattle.std.proofs.Common.{rules}
use Rattle.view.specs.Layout.{words}
use Rattle.view.specs.Views.{image}
use Rattle.demands.specs.Check.{word_demands}
use Rattle.demands.proofs.Demands.{tried}
use Rattle.cnc.proofs.words.check_words.Goals as goal

pub returns : goal.returns
returns c = let b = image c.args.view.now in tried (word_demands b) (words b) (λ x w q k. search rules) (search rules) c.try_for_each.ensures.ran
