-- What is told of a tree's text in memory of its own.
use Rattle.std.specs.Prelude.{◌≡◌, ℕ, List, Ok, Err, Result}
use Rattle.fault.specs.declared.kinds.SayFault.TheVariants.{OtherSignature, Mute, NoRoom}
use Rattle.grammar.specs.Languages.{Meaning}
use Rattle.grammar.specs.Trees.{Tree}
use Rattle.saying.specs.Mute.{FirstMute}
use Rattle.tree.specs.declared.code.TreeCode.{TreeCode}
use Rattle.tree.specs.Codes.{IsTree}
use Rattle.tree.specs.Read.{bytes_of, tree_signature}
use Rattle.linearizer.specs.declared.text.TextFault.{TextFault}
use Rattle.linearizer.specs.declared.text.TextFault.TheVariants.{Unsaid, Memory}
use Rattle.linearizer.specs.Says.{TextOf}

-- the text of the tree that a code stands for, as what holds it tells its bytes; or why there is none: want of memory, or the tree is not said
abbrev pub TextTold : {V : Type 0} → (V → List ℕ) → Meaning → TreeCode → Result V TextFault → Type 0
TextTold bytes m code (Ok v) =
    (tree_signature code ≡ m.signature) × ((t : Tree) × IsTree (tree_signature code) (bytes_of code) t × TextOf m t (bytes v))
TextTold bytes m code (Err Memory) = Unit {0}
TextTold bytes m code (Err (Unsaid OtherSignature)) = tree_signature code ≡ m.signature → ⊥
TextTold bytes m code (Err (Unsaid (Mute i))) =
    (tree_signature code ≡ m.signature) × ((t : Tree) × IsTree (tree_signature code) (bytes_of code) t × FirstMute m t i)
TextTold bytes m code (Err (Unsaid (NoRoom n))) = ⊥
