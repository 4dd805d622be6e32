-- The element at a place of a list, also of one that is made of others.
use Rattle.std.proofs.Common.{◌≡◌, ℕ, zero, suc, ◌-◌, ◌<◌, ◌≤◌, List, [], ◌∷◌, ◌++◌, map, length, drop, replicate, Some, None, sym, refl, ap, ◌∙◌, subst, inl, inr, ⊎_elim, arith}
use Rattle.std.specs.List.{slice_get, range_with_len, AllByRecursion}
use Rattle.std.specs.Option.{option_map}
use Rattle.std.proofs.lemmas.List.FromFn.{length-map-range_with_len, get_or-map-range_with_len}
use Rattle.std.proofs.lemmas.List.{get_or-replicate, length-replicate}
use Rattle.std.proofs.lemmas.Option.{slice_get-get_or, slice_get_past}
use Rattle.grammar.specs.Lists.{Holds}
use Rattle.grammar.proofs.Optional.{none_some}

pub nth_map : {X Y : Type 0} (f : X → Y) (xs : List X) (i : ℕ) → slice_get (map f xs) i ≡ option_map f (slice_get xs i)
nth_map f [] i = refl
nth_map f (x ∷ xs) zero = refl
nth_map f (x ∷ xs) (suc i) = nth_map f xs i

pub nth_append_left : {X : Type 0} (xs ys : List X) (i : ℕ) → i < length xs → slice_get (xs ++ ys) i ≡ slice_get xs i
nth_append_left [] ys i h = absurd (omega arith)
nth_append_left (x ∷ xs) ys zero h = refl
nth_append_left (x ∷ xs) ys (suc i) h = nth_append_left xs ys i (omega arith)

pub nth_append_right : {X : Type 0} (xs ys : List X) (i : ℕ) → length xs ≤ i → slice_get (xs ++ ys) i ≡ slice_get ys (i - length xs)
nth_append_right [] ys i h = let e : i ≡ i - 0 = omega arith in ap (slice_get ys) e
nth_append_right (x ∷ xs) ys zero h = absurd (omega arith)
nth_append_right (x ∷ xs) ys (suc i) h =
    let e : i - length xs ≡ suc i - suc (length xs) = omega arith in nth_append_right xs ys i (omega arith) ∙ ap (slice_get ys) e

pub nth_map_counting : {X : Type 0} (f : ℕ → X) (n i : ℕ) → i < n → slice_get (map f (range_with_len 0 n)) i ≡ Some (f i)
nth_map_counting f n i h =
    let long = length-map-range_with_len f 0 n in
    slice_get-get_or (map f (range_with_len 0 n)) i (f i) (omega arith) ∙ ap Some (get_or-map-range_with_len f 0 n i i (f i) h (omega arith))

pub nth_replicate : {X : Type 0} (n i : ℕ) (x : X) → i < n → slice_get (replicate n x) i ≡ Some x
nth_replicate n i x h =
    let long = length-replicate n x in slice_get-get_or (replicate n x) i x (omega arith) ∙ ap Some (get_or-replicate n i x x h)

pub nth_replicate_past : {X : Type 0} (n i : ℕ) (x : X) → n ≤ i → slice_get (replicate n x) i ≡ None
nth_replicate_past n i x h = let long = length-replicate n x in slice_get_past (replicate n x) i (omega arith)

-- a place at which there is an element is below the length
pub nth_below : {X : Type 0} (xs : List X) (i : ℕ) (x : X) → slice_get xs i ≡ Some x → i < length xs
nth_below [] i x h = let z : ◌≡◌ {A = ℕ} 0 1 = cc in absurd (omega arith)
nth_below (y ∷ ys) zero x h = omega arith
nth_below (y ∷ ys) (suc i) x h = let below = nth_below ys i x h in omega arith

-- what is left of a list from a place on begins with the element there
pub drop_nth : {X : Type 0} (xs : List X) (i : ℕ) (x : X) → slice_get xs i ≡ Some x → drop i xs ≡ x ∷ drop (suc i) xs
drop_nth [] i x h = let z : ◌≡◌ {A = ℕ} 0 1 = cc in absurd (omega arith)
drop_nth (y ∷ ys) zero x h = let same : y ≡ x = cc in ap (λ z. z ∷ ys) same
drop_nth (y ∷ ys) (suc i) x h = drop_nth ys i x h

-- what holds of all holds of each
pub all_nth : {X : Type 0} (P : X → Type 0) (xs : List X) (i : ℕ) (x : X) → AllByRecursion P xs → slice_get xs i ≡ Some x → P x
all_nth P [] i x a h = absurd (none_some x h)
all_nth P (y ∷ xs) zero x a h = let same : y ≡ x = cc in subst P same a.0
all_nth P (y ∷ xs) (suc i) x a h = all_nth P xs i x a.1 h

-- each place below the length has an element
pub nth_missing : {X : Type 0} (xs : List X) (i : ℕ) → i < length xs → slice_get xs i ≡ None → ⊥
nth_missing [] i lt h = omega arith
nth_missing (x ∷ xs) zero lt h = none_some x (sym h)
nth_missing (x ∷ xs) (suc i) lt h = nth_missing xs i (omega arith) h

-- a list holds what stands at a place of it, and nothing else
pub nth_holds : {X : Type 0} (xs : List X) (i : ℕ) (x : X) → slice_get xs i ≡ Some x → Holds xs x
nth_holds [] i x h = absurd (none_some x h)
nth_holds (y ∷ ys) zero x h = inl (cc)
nth_holds (y ∷ ys) (suc i) x h = inr (nth_holds ys i x h)

pub holds_nth : {X : Type 0} (xs : List X) (x : X) → Holds xs x → (i : ℕ) × (slice_get xs i ≡ Some x)
holds_nth [] x h = absurd h
holds_nth (y ∷ ys) x h =
    ⊎_elim (λ e. (0, ap Some (sym e))) (λ later. let p = holds_nth ys x later in (suc p.0, p.1)) h
