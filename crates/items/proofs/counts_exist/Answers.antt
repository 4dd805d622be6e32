use Rattle.items.proofs.Edges.{counts_exist}
use Rattle.items.proofs.counts_exist.Goals as goal

pub returns : goal.returns
returns c = counts_exist
