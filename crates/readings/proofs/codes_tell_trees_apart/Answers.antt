use Rattle.readings.proofs.Codes.{codes_tell_trees_apart}
use Rattle.readings.proofs.codes_tell_trees_apart.Goals as goal

pub returns : goal.returns
returns c = codes_tell_trees_apart
