-- The depth left falls from a node to its arguments; a call for the arguments is one step above the calls for each of them.
use Rattle.std.proofs.Common.{◌+◌, ◌*◌}
use Rattle.draft.proofs.nodes.DraftNodes.+walk.Given as goal

abbrev pub decreases-read_all : goal.decreases-read_all
decreases-read_all l = 2 * l.left + 1

abbrev pub decreases-read_one : goal.decreases-read_one
decreases-read_one l = 2 * l.left
