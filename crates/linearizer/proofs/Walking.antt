-- Walking along a list by asking for the element at each place: what an answer tells of the list.
use Rattle.std.proofs.Common.{◌≡◌, ℕ, zero, suc, ◌≤◌, List, [], ◌∷◌, ◌++◌, map, length, get_or, take, Some, None, ap, arith}
use Rattle.std.specs.List.{slice_get}
use Rattle.grammar.proofs.Optional.{none_some}

module _ {A : Type 0} where
  pub nth_end : (xs : List A) (i : ℕ) → slice_get xs i ≡ None → length xs ≤ i
  nth_end [] i h = omega arith
  nth_end (y ∷ xs) zero h = absurd (none_some y (let e : None ≡ Some y = cc in e))
  nth_end (y ∷ xs) (suc i) h = omega (arith, nth_end xs i h)

  pub nth_taken : (xs : List A) (i : ℕ) (x : A) → slice_get xs i ≡ Some x → take (suc i) xs ≡ take i xs ++ x ∷ []
  nth_taken [] i x h = absurd (none_some x h)
  nth_taken (y ∷ xs) zero x h = cc
  nth_taken (y ∷ xs) (suc i) x h = ap (λ ys. y ∷ ys) (nth_taken xs i x h)

-- the element of a list of results
pub nth_mapped : {A B : Type 0} (f : A → B) (xs : List A) (i : ℕ) (x : A) (d : B) → slice_get xs i ≡ Some x → get_or (map f xs) i d ≡ f x
nth_mapped f [] i x d h = absurd (none_some x h)
nth_mapped f (y ∷ xs) zero x d h = cc
nth_mapped f (y ∷ xs) (suc i) x d h = nth_mapped f xs i x d h
