-- The depth is at most 6, so 364 places suffice.
use Rattle.std.proofs.Common.{length, ap, arith}
use Rattle.draft.proofs.Steps.{most_grows}
use Rattle.draft.proofs.walk.read_draft.Goals as goal

pub read_one-requires : goal.read_one-requires
read_one-requires c = let none = ap length c.new-nodes.ensures in omega (arith, most_grows c.get.result 6 (omega arith))
