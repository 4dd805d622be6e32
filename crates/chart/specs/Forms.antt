-- The edges of a function: for each way to give its arguments forms for which there is a rule, every choice of items of these forms.
use Rattle.std.specs.Prelude.{◌≡◌, ℕ, zero, suc, ◌+◌, ◌≤◌, List, [], ◌∷◌, ◌++◌, map, length, take, Some, None, Option}
use Rattle.std.specs.List.{slice_get, flat_map, AllByRecursion}
use Rattle.grammar.specs.Languages.{Meaning, Rule}
use Rattle.grammar.specs.Signatures.{Function}
use Rattle.measure.specs.Sizes.{padded}
use Rattle.chart.specs.declared.edge.Edge.{Edge}
use Rattle.chart.specs.declared.index.Index.{Index}
use Rattle.chart.specs.declared.item.Item.{Item}
use Rattle.chart.specs.Index.{Indexed, places_of}
use Rattle.chart.specs.Rows.{Chains, edge_over, product}

-- 0, 1 and on, n numbers
abbrev pub up_to : ℕ → List ℕ
up_to zero = []
up_to (suc n) = up_to n ++ n ∷ []

-- the edges over every choice from the chains, where there is a rule
abbrev pub ruled_edges : ℕ → List (List ℕ) → Option Rule → List Edge
ruled_edges f chains None = []
ruled_edges f chains (Some r) = map (edge_over f (0 ∷ 0 ∷ 0 ∷ []) 0) (product chains)

-- the edges of function f over the items xs: forms ks and the chains of items with these are chosen for the first arguments, and the other
-- arguments have the categories cs
abbrev pub form_edges : Meaning → ℕ → List Item → List ℕ → List ℕ → List (List ℕ) → List Edge
form_edges m f xs [] ks chains = ruled_edges f chains (m.rule f ks)
form_edges m f xs (c ∷ cs) ks chains = flat_map (λ k. form_edges m f xs cs (ks ++ k ∷ []) (chains ++ places_of c k 0 xs ∷ [])) (up_to 8)

-- how far the choice of forms is
pub record FormsSoFar (m : Meaning) (f : ℕ) (categories forms : List ℕ) (starts : List (Option ℕ)) (chosen : ℕ) (index : Index) (xs : List Item) (function : Function) (ks : List ℕ) (chains : List (List ℕ)) : Type 0 where
  pub known : slice_get m.signature.functions f ≡ Some function
  pub count : length ks + length categories ≡ length function.arguments
  pub small : AllByRecursion (λ k. k ≤ 7) ks
  pub as_asked : forms ≡ padded ks
  pub far : length ks ≡ chosen
  pub chained : Chains index.next (take chosen starts) chains
  pub indexed : Indexed xs 0 index
  pub few : length xs ≤ 512
