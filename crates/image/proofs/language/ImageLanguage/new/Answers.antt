-- The bytes are those of the empty image, and the check and the grammar compute on them.
use Rattle.std.proofs.Common.{is_some, ap}
use Rattle.demands.specs.Check.{image_check}
use Rattle.view.specs.Grammar.{image_meaning}
use Rattle.image.proofs.language.ImageLanguage.new.Goals as goal

pub invariant_of-result : goal.invariant_of-result
invariant_of-result c = record { sound = ap (λ b. is_some (image_check b)) c.in_ok-bytes.ensures.items }

pub returns : goal.returns
returns c = ap image_meaning c.in_ok-bytes.ensures.items
