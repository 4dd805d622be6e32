-- What a fault tells a person: a reason for each case.
use Rattle.std.specs.Prelude.{ℕ, List, codes}
use Rattle.fault.specs.declared.kinds.ChartFault.{ChartFault}
use Rattle.fault.specs.declared.kinds.ChartFault.TheVariants.{TooLarge, Unread}
use Rattle.fault.specs.declared.kinds.OpenFault.{OpenFault}
use Rattle.fault.specs.declared.kinds.OpenFault.TheVariants.{InTree, InPhrase, InChart}
use Rattle.fault.specs.declared.kinds.PhraseFault.{PhraseFault}
use Rattle.fault.specs.declared.kinds.PhraseFault.TheVariants.{WrongByte, LongWord, TooManyWords, UnknownWord}
use Rattle.fault.specs.declared.kinds.SayFault.{SayFault}
use Rattle.fault.specs.declared.kinds.SayFault.TheVariants.{OtherSignature as OtherLanguage, Mute, NoRoom}
use Rattle.fault.specs.declared.kinds.TreeFault.{TreeFault}
use Rattle.fault.specs.declared.kinds.TreeFault.TheVariants.{DepthOutOfRange, OtherSignature, EndsEarly, LeftOver, WrongNode, TooDeep}

abbrev pub tree_reason : TreeFault → List ℕ
tree_reason DepthOutOfRange = codes "the depth is not 1 to 6"
tree_reason OtherSignature = codes "the language has another signature than the session"
tree_reason (EndsEarly length) = codes "the draft ends early"
tree_reason (LeftOver byte) = codes "bytes are left over after the draft"
tree_reason (WrongNode byte) = codes "neither a hole nor a function of the category that the place calls for"
tree_reason (TooDeep byte) = codes "the node is deeper than the depth"

abbrev pub phrase_reason : PhraseFault → List ℕ
phrase_reason (WrongByte byte) = codes "a byte that no word has, or a blank first, last or after a blank"
phrase_reason (LongWord byte) = codes "a word of more than 24 bytes"
phrase_reason (TooManyWords byte) = codes "more than 32 words"
phrase_reason (UnknownWord word) = codes "no word of the language"

abbrev pub chart_reason : ChartFault → List ℕ
chart_reason TooLarge = codes "more than 512 items or 4096 edges"
chart_reason Unread = codes "the phrase has no reading"

abbrev pub open_reason : OpenFault → List ℕ
open_reason (InTree f) = tree_reason f
open_reason (InPhrase f) = phrase_reason f
open_reason (InChart f) = chart_reason f

abbrev pub say_reason : SayFault → List ℕ
say_reason OtherLanguage = codes "the language has another signature than the session"
say_reason (Mute node) = codes "the node has no rule for the forms of its arguments"
say_reason (NoRoom length) = codes "the start is past the page, or too few bytes are left on it"
