-- Tree order: codes are compared byte by byte from the front, and at the first difference the lower byte comes first.
use Rattle.std.specs.Prelude.{◌≡◌, ℕ, ◌<◌, ◌⊎◌, List, [], ◌∷◌}
use Rattle.std.specs.List.{AllByRecursion}
use Rattle.grammar.specs.Trees.{Tree, code}

-- the first code comes before the second
abbrev pub Before : List ℕ → List ℕ → Type 0
Before [] ys = ⊥
Before (x ∷ xs) [] = ⊥
Before (x ∷ xs) (y ∷ ys) = (x < y) ⊎ ((x ≡ y) × Before xs ys)

-- each tree of the list comes before every later one
abbrev pub Ascending : List Tree → Type 0
Ascending [] = Unit {0}
Ascending (t ∷ ts) = AllByRecursion (λ u. Before (code t) (code u)) ts × Ascending ts
