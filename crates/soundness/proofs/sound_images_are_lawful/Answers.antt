use Rattle.soundness.proofs.Lawfulness.{sound_images_are_lawful}
use Rattle.soundness.proofs.sound_images_are_lawful.Goals as goal

pub returns : goal.returns
returns c = sound_images_are_lawful
