-- Number, layer and place of each case of an image's fault.
use Rattle.refusals.specs.declared.kinds.Layer.TheVariants.{Image}
use Rattle.refusals.specs.declared.kinds.Refusal.{Refusal}
use Rattle.refusals.specs.Refusals.{refuse}
use Rattle.flaw.specs.declared.kinds.ImageFault.{ImageFault}
use Rattle.flaw.specs.declared.kinds.ImageFault.TheVariants.{Mark, Short, Range, Total, Field, Word, Rule, Symbol}

abbrev pub image_refusal : ImageFault → Refusal
image_refusal (Mark byte) = refuse 1 Image byte
image_refusal (Short length) = refuse 2 Image length
image_refusal (Range byte) = refuse 2 Image byte
image_refusal Total = refuse 2 Image 16
image_refusal (Field byte) = refuse 3 Image byte
image_refusal (Word entry) = refuse 4 Image entry
image_refusal (Rule entry) = refuse 5 Image entry
image_refusal (Symbol symbol) = refuse 6 Image symbol
