-- The law of codes: those without a fault are the codes of trees.
use Rattle.std.specs.Prelude.{◌≡◌, ℕ, ◌≤◌, ◌↔◌, List, length, None}
use Rattle.grammar.specs.Drafts.{hole_byte}
use Rattle.grammar.specs.Signatures.{Signature}
use Rattle.grammar.specs.Trees.{Tree}
use Rattle.tree.specs.Codes.{IsTree, tree_fault}

-- where no function has the hole's byte as its number, a code has no fault exactly if it is the code of a tree
abbrev pub FaultlessCodesAreTrees : Type 0
FaultlessCodesAreTrees =
    (s : Signature) (bytes : List ℕ) → length s.functions ≤ hole_byte → (tree_fault s bytes ≡ None) ↔ ((t : Tree) × IsTree s bytes t)
