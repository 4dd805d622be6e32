-- The constituents are gone through one by one.
use Rattle.std.proofs.Common.{rules}
use Rattle.view.specs.Layout.{rule_dimension, symbol_count}
use Rattle.view.specs.Views.{image}
use Rattle.demands.specs.Check.{each, symbol_demands}
use Rattle.demands.proofs.Demands.{tried}
use Rattle.cnc.proofs.symbols.check_uses.Goals as goal

pub returns : goal.returns
returns c = let b = image c.args.view.now in tried (λ k. each (symbol_count b c.args.rule k) (symbol_demands b c.args.rule k)) (rule_dimension b c.args.rule) (λ x w q k. search rules) (search rules) c.try_for_each.ensures.ran
