use Rattle.saying.proofs.Lengths.{texts_are_bounded}
use Rattle.saying.proofs.texts_are_bounded.Goals as goal

pub returns : goal.returns
returns c = texts_are_bounded
