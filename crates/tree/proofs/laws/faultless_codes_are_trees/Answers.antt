use Rattle.tree.proofs.Filled.{faultless_codes_are_trees}
use Rattle.tree.proofs.laws.faultless_codes_are_trees.Goals as goal

pub returns : goal.returns
returns c = faultless_codes_are_trees
