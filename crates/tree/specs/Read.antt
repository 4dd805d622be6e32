-- What reading a tree's code answers.
use Rattle.std.specs.Prelude.{◌≡◌, ℕ, List, Some, None, Ok, Err, Result}
use Rattle.fault.specs.declared.kinds.TreeFault.{TreeFault}
use Rattle.grammar.specs.declared.signature.SignatureTable.{SignatureTable}
use Rattle.grammar.specs.Signatures.{Signature}
use Rattle.grammar.specs.Tables.{signature_of}
use Rattle.tree.specs.declared.code.TreeCode.{TreeCode}
use Rattle.tree.specs.Codes.{tree_fault}

-- the bytes of the code
abbrev pub bytes_of : TreeCode → List ℕ
bytes_of t = t.bytes.now

-- the signature that the tree is one of
abbrev pub tree_signature : TreeCode → Signature
tree_signature t = signature_of t.signature.now

-- the code itself, where it has no fault, or its first fault
abbrev pub ReadAs : SignatureTable → List ℕ → Result TreeCode TreeFault → Type 0
ReadAs table bytes (Ok t) = (tree_fault (signature_of table) bytes ≡ None) × (t.signature.now ≡ table) × (bytes_of t ≡ bytes)
ReadAs table bytes (Err fault) = tree_fault (signature_of table) bytes ≡ Some fault
