use Rattle.readings.proofs.Enumeration.{full_list_exists}
use Rattle.readings.proofs.full_list_exists.Goals as goal

pub returns : goal.returns
returns c = full_list_exists
