use Rattle.readings.proofs.Uniqueness.{full_list_is_unique}
use Rattle.readings.proofs.full_list_is_unique.Goals as goal

pub returns : goal.returns
returns c = full_list_is_unique
