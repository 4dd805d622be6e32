-- The dimensions are checked one by one.
use Rattle.std.proofs.Common.{rules}
use Rattle.view.specs.Layout.{categories}
use Rattle.view.specs.Views.{image}
use Rattle.demands.specs.Check.{dimension_demands}
use Rattle.demands.proofs.Demands.{tried}
use Rattle.demands.proofs.functions.check_dimensions.Goals as goal

pub returns : goal.returns
returns c = let b = image c.args.view.now in tried (dimension_demands b) (categories b) (λ x w q k. search rules) (search rules) c.try_for_each.ensures.ran
