-- The meaning of one of two languages.
use Rattle.grammar.specs.Languages.{Meaning}
use Rattle.layers.specs.declared.either.Either.{Either}
use Rattle.layers.specs.declared.either.Either.TheVariants.{First, Second}

abbrev pub chosen : {L R : Type 0} → (L → Meaning) → (R → Meaning) → Either L R → Meaning
chosen left right (First l) = left l
chosen left right (Second r) = right r
