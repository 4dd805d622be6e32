-- Codes of trees: the trees of a signature that a panel takes, and the first fault of a code that stands for none.
use Rattle.std.specs.Prelude.{◌≡◌, ℕ, suc, ◌≤◌, cond, List, [], ◌∷◌, Some, None, Ok, Err, Option, ◌==◌}
use Rattle.fault.specs.declared.kinds.TreeFault.{TreeFault}
use Rattle.fault.specs.declared.kinds.TreeFault.TheVariants.{WrongNode}
use Rattle.grammar.specs.Drafts.{hole_byte}
use Rattle.grammar.specs.DraftWalk.{draft_walk}
use Rattle.grammar.specs.Signatures.{Signature}
use Rattle.grammar.specs.Trees.{Tree, code, depth, HasCategory}

-- the greatest depth of a tree
abbrev pub greatest_depth : ℕ
greatest_depth = 6

-- the bytes are the code of the tree, which has the start category and is no deeper than allowed
pub record IsTree (s : Signature) (bytes : List ℕ) (t : Tree) : Type 0 where
  pub start : HasCategory s s.start t
  pub within : depth t ≤ greatest_depth
  pub coded : code t ≡ bytes

-- a tree has no holes: the first one, from place p on, is a wrong node
abbrev pub first_hole : ℕ → List ℕ → Option TreeFault
first_hole p [] = None
first_hole p (b ∷ bs) = cond (b == hole_byte) (Some (WrongNode p)) (first_hole (suc p) bs)

-- the first fault of the draft's walk, or else the first hole
abbrev pub tree_fault : Signature → List ℕ → Option TreeFault
tree_fault s bytes = elim (draft_walk s greatest_depth bytes) [ Ok d ↦ first_hole 0 bytes | Err fault ↦ Some fault ]
