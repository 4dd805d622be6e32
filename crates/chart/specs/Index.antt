-- The places of the items of each category and form, chained in rising order.
use Rattle.std.specs.Prelude.{◌≡◌, ℕ, suc, ◌+◌, ◌*◌, ◌<◌, cond, ◌&&◌, List, [], ◌∷◌, Some, None, Option, ◌==◌, slice_index_or}
use Rattle.chart.specs.declared.index.Index.{Index}
use Rattle.chart.specs.declared.item.Item.{Item}

-- the places, counted from i, of the items of category c and form k
abbrev pub places_of : ℕ → ℕ → ℕ → List Item → List ℕ
places_of c k i [] = []
places_of c k i (x ∷ xs) = cond (x.category == c && x.form == k) (i ∷ places_of c k (suc i) xs) (places_of c k (suc i) xs)

-- from a place on, each place's follower is the next of the list, and the last one has none
abbrev pub Chain : List (Option ℕ) → Option ℕ → List ℕ → Type 0
Chain next p [] = p ≡ None
Chain next p (q ∷ qs) = (p ≡ Some q) × Chain next (slice_index_or next q None) qs

-- a category below 16 and a form below 8
abbrev pub InBounds : Item → Type 0
InBounds x = (x.category < 16) × (x.form < 8)

-- where the chain of a category and a form begins
abbrev pub head_of : Index → ℕ → ℕ → Option ℕ
head_of index c k = slice_index_or index.heads (8 * c + k) None

-- the chains are those of the items
abbrev pub Indexed : List Item → ℕ → Index → Type 0
Indexed xs i index = (c k : ℕ) → c < 16 → k < 8 → Chain index.next (head_of index c k) (places_of c k i xs)
