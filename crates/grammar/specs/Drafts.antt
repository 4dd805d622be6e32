-- Drafts: trees in which holes may stand for subtrees; their codes and depths, and which trees complete them.
use Rattle.std.specs.Prelude.{◌≡◌, ℕ, suc, max, List, [], ◌∷◌, ◌++◌, Some}
use Rattle.std.specs.List.{slice_get}
use Rattle.grammar.specs.Signatures.{Signature, Function}
use Rattle.grammar.specs.Trees.{Tree, Trees}
use Rattle.grammar.specs.Trees.Tree.{node}
use Rattle.grammar.specs.Trees.Trees.{none, more}

mutual
  pub data Draft : Type 0 where
    hole : Draft
    built : ℕ → Drafts → Draft

  pub data Drafts : Type 0 where
    nil : Drafts
    cons : Draft → Drafts → Drafts

-- the byte that stands for a hole in a code
abbrev pub hole_byte : ℕ
hole_byte = 255

abbrev mutual
  pub draft_code : Draft → List ℕ
  draft_code hole = hole_byte ∷ []
  draft_code (built f ds) = f ∷ draft_codes ds

  pub draft_codes : Drafts → List ℕ
  draft_codes nil = []
  draft_codes (cons d ds) = draft_code d ++ draft_codes ds

-- a hole counts as depth 1
abbrev mutual
  pub draft_depth : Draft → ℕ
  draft_depth hole = 1
  draft_depth (built f ds) = suc (deepest_draft ds)

  pub deepest_draft : Drafts → ℕ
  deepest_draft nil = 0
  deepest_draft (cons d ds) = max (draft_depth d) (deepest_draft ds)

-- the draft is one of the signature, of the category; a hole has whatever category its place calls for
abbrev mutual
  pub DraftOf : Signature → ℕ → Draft → Type 0
  DraftOf s c hole = Unit {0}
  DraftOf s c (built f ds) =
      (function : Function) × (slice_get s.functions f ≡ Some function) × (function.result ≡ c) × DraftsOf s function.arguments ds

  pub DraftsOf : Signature → List ℕ → Drafts → Type 0
  DraftsOf s cs nil = cs ≡ []
  DraftsOf s cs (cons d ds) = (c : ℕ) × (rest : List ℕ) × (cs ≡ c ∷ rest) × DraftOf s c d × DraftsOf s rest ds

-- the tree arises by putting a tree for each hole; that these have the right categories follows where the tree has its own
abbrev mutual
  pub Completes : Draft → Tree → Type 0
  Completes hole t = Unit {0}
  Completes (built f ds) (node g ts) = (f ≡ g) × CompleteAll ds ts

  pub CompleteAll : Drafts → Trees → Type 0
  CompleteAll nil none = Unit {0}
  CompleteAll nil (more t ts) = ⊥
  CompleteAll (cons d ds) none = ⊥
  CompleteAll (cons d ds) (more t ts) = Completes d t × CompleteAll ds ts
