-- What a refusal says: its number, its layer and its place, for each case of each fault.
use Rattle.refusals.specs.declared.kinds.Layer.TheVariants.{Tree, Phrase, Chart, Session}
use Rattle.refusals.specs.declared.kinds.Refusal.{Refusal}
use Rattle.refusals.specs.Refusals.{refuse}
use Rattle.fault.specs.declared.kinds.ChartFault.{ChartFault}
use Rattle.fault.specs.declared.kinds.ChartFault.TheVariants.{TooLarge, Unread}
use Rattle.fault.specs.declared.kinds.OpenFault.{OpenFault}
use Rattle.fault.specs.declared.kinds.OpenFault.TheVariants.{InTree, InPhrase, InChart}
use Rattle.fault.specs.declared.kinds.PhraseFault.{PhraseFault}
use Rattle.fault.specs.declared.kinds.PhraseFault.TheVariants.{WrongByte, LongWord, TooManyWords, UnknownWord}
use Rattle.fault.specs.declared.kinds.SayFault.{SayFault}
use Rattle.fault.specs.declared.kinds.SayFault.TheVariants.{OtherSignature as OtherLanguage, Mute, NoRoom}
use Rattle.fault.specs.declared.kinds.TreeFault.{TreeFault}
use Rattle.fault.specs.declared.kinds.TreeFault.TheVariants.{DepthOutOfRange, OtherSignature, EndsEarly, LeftOver, WrongNode, TooDeep}

abbrev pub tree_refusal : TreeFault → Refusal
tree_refusal DepthOutOfRange = refuse 7 Tree 0
tree_refusal OtherSignature = refuse 8 Tree 0
tree_refusal (EndsEarly length) = refuse 9 Tree length
tree_refusal (LeftOver byte) = refuse 9 Tree byte
tree_refusal (WrongNode byte) = refuse 10 Tree byte
tree_refusal (TooDeep byte) = refuse 11 Tree byte

abbrev pub phrase_refusal : PhraseFault → Refusal
phrase_refusal (WrongByte byte) = refuse 12 Phrase byte
phrase_refusal (LongWord byte) = refuse 13 Phrase byte
phrase_refusal (TooManyWords byte) = refuse 13 Phrase byte
phrase_refusal (UnknownWord word) = refuse 14 Phrase word

abbrev pub chart_refusal : ChartFault → Refusal
chart_refusal TooLarge = refuse 15 Chart 0
chart_refusal Unread = refuse 16 Chart 0

abbrev pub open_refusal : OpenFault → Refusal
open_refusal (InTree f) = tree_refusal f
open_refusal (InPhrase f) = phrase_refusal f
open_refusal (InChart f) = chart_refusal f

abbrev pub say_refusal : SayFault → Refusal
say_refusal OtherLanguage = refuse 8 Tree 0
say_refusal (Mute node) = refuse 20 Session node
say_refusal (NoRoom length) = refuse 21 Session length
