use Rattle.saying.proofs.Muteness.{said_is_not_mute}
use Rattle.saying.proofs.said_is_not_mute.Goals as goal

pub returns : goal.returns
returns c = said_is_not_mute
