-- What an image's fault tells a person: a reason for each case.
use Rattle.std.specs.Prelude.{ℕ, List, codes}
use Rattle.flaw.specs.declared.kinds.ImageFault.{ImageFault}
use Rattle.flaw.specs.declared.kinds.ImageFault.TheVariants.{Mark, Short, Range, Total, Field, Word, Rule, Symbol}

abbrev pub image_reason : ImageFault → List ℕ
image_reason (Mark byte) = codes "the mark or the version differs"
image_reason (Short length) = codes "the head has 16 bytes, and the image fewer"
image_reason (Range byte) = codes "a count or the start category is out of range"
image_reason Total = codes "the length differs from what the counts call for"
image_reason (Field byte) = codes "a field of the dimensions or functions is out of range"
image_reason (Word entry) = codes "the word is too long or empty, ends past the spelled bytes, or has a byte that no word has"
image_reason (Rule entry) = codes "a field of the rule is out of range, or its key does not come after the one before"
image_reason (Symbol symbol) = codes "neither a word of the image nor a constituent of an argument"
