use Rattle.saying.proofs.Muteness.{said_or_mute}
use Rattle.saying.proofs.said_or_mute.Goals as goal

pub returns : goal.returns
returns c = said_or_mute
