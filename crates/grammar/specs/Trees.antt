-- Trees: a function with one tree for each argument; their codes, depths and categories.
use Rattle.std.specs.Prelude.{◌≡◌, ℕ, suc, max, List, [], ◌∷◌, ◌++◌, Some}
use Rattle.std.specs.List.{slice_get}
use Rattle.grammar.specs.Signatures.{Signature, Function}

mutual
  pub data Tree : Type 0 where
    node : ℕ → Trees → Tree

  -- trees side by side, from left to right
  pub data Trees : Type 0 where
    none : Trees
    more : Tree → Trees → Trees

-- the code of a tree: each node's function, then its arguments from left to right
abbrev mutual
  pub code : Tree → List ℕ
  code (node f ts) = f ∷ codes ts

  pub codes : Trees → List ℕ
  codes none = []
  codes (more t ts) = code t ++ codes ts

-- a tree without arguments has depth 1; any other is one deeper than its deepest argument
abbrev mutual
  pub depth : Tree → ℕ
  depth (node f ts) = suc (deepest ts)

  pub deepest : Trees → ℕ
  deepest none = 0
  deepest (more t ts) = max (depth t) (deepest ts)

-- the tree is one of the signature, of the category; each argument has the category that its place calls for
abbrev mutual
  pub HasCategory : Signature → ℕ → Tree → Type 0
  HasCategory s c (node f ts) =
      (function : Function) × (slice_get s.functions f ≡ Some function) × (function.result ≡ c) × HaveCategories s function.arguments ts

  pub HaveCategories : Signature → List ℕ → Trees → Type 0
  HaveCategories s cs none = cs ≡ []
  HaveCategories s cs (more t ts) =
      (c : ℕ) × (rest : List ℕ) × (cs ≡ c ∷ rest) × HasCategory s c t × HaveCategories s rest ts
