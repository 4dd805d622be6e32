-- A tree's item is made by the edge over the items of its arguments.
use Rattle.congruence.proofs.Levels.{items_grow_by_edges}
use Rattle.congruence.proofs.items_grow_by_edges.Goals as goal

pub returns : goal.returns
returns c = items_grow_by_edges
