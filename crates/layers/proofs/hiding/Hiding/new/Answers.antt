-- No function is marked.
use Rattle.std.proofs.Common.{refl}
use Rattle.layers.specs.HiddenLemmas.{none_marked}
use Rattle.layers.proofs.hiding.Hiding.new.Goals as goal

pub returns : goal.returns
returns g c = record { below = refl; none = λ f. none_marked 64 f }
