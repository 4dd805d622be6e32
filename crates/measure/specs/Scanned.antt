-- What measuring a tree answers: its table, or why it is not said.
use Rattle.std.specs.Prelude.{◌≡◌, Some, Ok, Err, Result}
use Rattle.fault.specs.declared.kinds.SayFault.{SayFault}
use Rattle.fault.specs.declared.kinds.SayFault.TheVariants.{OtherSignature, Mute, NoRoom}
use Rattle.grammar.specs.Languages.{Meaning}
use Rattle.grammar.specs.Linearization.{Said, linearized}
use Rattle.grammar.specs.Trees.{Tree}
use Rattle.saying.specs.Mute.{FirstMute}
use Rattle.tree.specs.declared.code.TreeCode.{TreeCode}
use Rattle.tree.specs.Codes.{IsTree}
use Rattle.tree.specs.Read.{bytes_of, tree_signature}
use Rattle.measure.specs.declared.table.MeasureTable.{MeasureTable}
use Rattle.measure.specs.Measured.{Measured}

-- the table of the tree's measures, where the tree has a linearization; or why it is not said
abbrev pub MeasuredAs : Meaning → TreeCode → Result MeasureTable SayFault → Type 0
MeasuredAs m tree (Ok table) =
    (tree_signature tree ≡ m.signature)
    × ((t : Tree) → IsTree m.signature (bytes_of tree) t → (said : Said) × (linearized m t ≡ Some said) × Measured m t table)
MeasuredAs m tree (Err OtherSignature) = tree_signature tree ≡ m.signature → ⊥
MeasuredAs m tree (Err (Mute i)) =
    (tree_signature tree ≡ m.signature) × ((t : Tree) → IsTree m.signature (bytes_of tree) t → FirstMute m t i)
MeasuredAs m tree (Err (NoRoom n)) = ⊥

-- the same of a table that was lent: what is then in it, a mute node or not; and where nothing was measured it is as it was
abbrev pub MeasuredInto : Meaning → TreeCode → MeasureTable → Result (Unit {0}) SayFault → MeasureTable → Type 0
MeasuredInto m tree before (Ok done) after = MeasuredAs m tree (Ok after)
MeasuredInto m tree before (Err OtherSignature) after = (tree_signature tree ≡ m.signature → ⊥) × (after ≡ before)
MeasuredInto m tree before (Err (Mute i)) after =
    (tree_signature tree ≡ m.signature)
    × ((t : Tree) → IsTree m.signature (bytes_of tree) t → FirstMute m t i × Measured m t after)
MeasuredInto m tree before (Err (NoRoom n)) after = ⊥
