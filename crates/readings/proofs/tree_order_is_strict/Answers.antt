use Rattle.readings.proofs.Codes.{order_is_strict}
use Rattle.readings.proofs.tree_order_is_strict.Goals as goal

pub returns : goal.returns
returns c = order_is_strict
