-- The functions are checked one by one.
use Rattle.std.proofs.Common.{rules}
use Rattle.view.specs.Layout.{functions}
use Rattle.view.specs.Views.{image}
use Rattle.demands.specs.Check.{function_demands}
use Rattle.demands.proofs.Demands.{tried}
use Rattle.demands.proofs.functions.check_functions.Goals as goal

pub returns : goal.returns
returns c = let b = image c.args.view.now in tried (function_demands b) (functions b) (λ x w q k. search rules) (search rules) c.try_for_each.ensures.ran
