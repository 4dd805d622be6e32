-- A tree within a depth is within the next one too.
use Rattle.congruence.proofs.Levels.{items_only_grow}
use Rattle.congruence.proofs.items_only_grow.Goals as goal

pub returns : goal.returns
returns c = items_only_grow
