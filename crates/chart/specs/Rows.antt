-- Edges as a table lists them: a function with the places of its arguments' items.
use Rattle.std.specs.Prelude.{◌≡◌, ℕ, suc, ◌+◌, ◌<◌, Bool, List, [], ◌∷◌, ◌++◌, map, length, take, Option, nat_le, slice_set}
use Rattle.std.specs.List.{flat_map, AllByRecursion}
use Rattle.tables.specs.Held.{held}
use Rattle.chart.specs.declared.edge.Edge.{Edge}
use Rattle.chart.specs.declared.edge.EdgeTable.{EdgeTable}
use Rattle.chart.specs.Index.{Chain}

-- the edges in use
abbrev pub listed : EdgeTable → List Edge
listed t = held t.edges

-- how many places a chart has for edges
abbrev pub edge_places : ℕ
edge_places = 4096

-- edges were put behind those that were there, as many as have places; the answer is whether all have
pub record Filled (before new : List Edge) (answer : Bool) (after : List Edge) : Type 0 where
  pub edges : after ≡ take edge_places (before ++ new)
  pub all : answer ≡ nat_le (length before + length new) edge_places

-- one of each list, in every way
abbrev pub product : List (List ℕ) → List (List ℕ)
product [] = [] ∷ []
product (qs ∷ chains) = flat_map (λ q. map (λ row. q ∷ row) (product chains)) qs

-- the numbers of a row written over those from a place on
abbrev pub filled_in : List ℕ → ℕ → List ℕ → List ℕ
filled_in arguments n [] = arguments
filled_in arguments n (q ∷ row) = filled_in (slice_set arguments n q) (suc n) row

abbrev pub edge_over : ℕ → List ℕ → ℕ → List ℕ → Edge
edge_over f arguments n row = record { function = f; arguments = filled_in arguments n row; result = 0 }

-- numbers that rise
abbrev pub Rises : List ℕ → Type 0
Rises [] = Unit {0}
Rises (q ∷ qs) = AllByRecursion (λ r. q < r) qs × Rises qs

-- chains from each of the starts, of places that rise below 512
abbrev pub Chains : List (Option ℕ) → List (Option ℕ) → List (List ℕ) → Type 0
Chains next [] [] = Unit {0}
Chains next [] (qs ∷ chains) = ⊥
Chains next (p ∷ starts) [] = ⊥
Chains next (p ∷ starts) (qs ∷ chains) = Chain next p qs × Rises qs × AllByRecursion (λ q. q < 512) qs × Chains next starts chains
