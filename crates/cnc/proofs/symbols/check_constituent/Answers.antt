-- The symbols of the constituent are checked one by one.
use Rattle.std.proofs.Common.{rules}
use Rattle.view.specs.Layout.{symbol_count}
use Rattle.view.specs.Views.{image}
use Rattle.demands.specs.Check.{symbol_demands}
use Rattle.demands.proofs.Demands.{tried}
use Rattle.cnc.proofs.symbols.check_constituent.Goals as goal

pub returns : goal.returns
returns c = let b = image c.args.view.now in tried (symbol_demands b c.args.rule c.args.constituent) (symbol_count b c.args.rule c.args.constituent) (λ x w q k. search rules) (search rules) c.try_for_each.ensures.ran
