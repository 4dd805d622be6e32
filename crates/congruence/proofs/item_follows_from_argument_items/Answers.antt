-- The item of a node is what its function makes of the items of its arguments.
use Rattle.congruence.proofs.Nodes.{item_follows_from_argument_items}
use Rattle.congruence.proofs.item_follows_from_argument_items.Goals as goal

pub returns : goal.returns
returns c = item_follows_from_argument_items
