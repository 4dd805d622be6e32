-- The rules are gone through one by one.
use Rattle.std.proofs.Common.{rules}
use Rattle.view.specs.Layout.{rules as rule_count}
use Rattle.view.specs.Views.{image}
use Rattle.demands.specs.Check.{use_demands}
use Rattle.demands.proofs.Demands.{tried}
use Rattle.cnc.proofs.symbols.check_symbols.Goals as goal

pub returns : goal.returns
returns c = let b = image c.args.view.now in tried (use_demands b) (rule_count b) (λ x w q k. search rules) (search rules) c.try_for_each.ensures.ran
