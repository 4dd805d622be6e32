use Rattle.items.proofs.Edges.{counts_are_unique}
use Rattle.items.proofs.counts_are_unique.Goals as goal

pub returns : goal.returns
returns c = counts_are_unique
