-- Both nodes have the item that the function makes of the items that their arguments share.
use Rattle.congruence.proofs.Nodes.{one_item_for_one_function_and_arguments}
use Rattle.congruence.proofs.one_item_for_one_function_and_arguments.Goals as goal

pub returns : goal.returns
returns c = one_item_for_one_function_and_arguments
