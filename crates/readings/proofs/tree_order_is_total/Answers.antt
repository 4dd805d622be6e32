use Rattle.readings.proofs.Codes.{order_is_total}
use Rattle.readings.proofs.tree_order_is_total.Goals as goal

pub returns : goal.returns
returns c = order_is_total
