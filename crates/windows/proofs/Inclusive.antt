-- The numbers from 0 up to a last one: what `find` finds among them.
use Rattle.std.proofs.Common.{Bool, true, false, ◌≡◌, ℕ, suc, ◌+◌, ◌-◌, ◌<◌, List, [], ◌∷◌, length, get_or, Some, None, Option, sym, refl, ap, ◌∙◌, subst, arith}
use Rattle.std.specs.declared.ops.RangeInclusive.{RangeInclusive}
use Rattle.std.specs.List.{range_with_len, AllWithin, HoldsAt}
use Rattle.std.specs.Option.{MatchOption}
use Rattle.std.specs.Range.{range_inclusive_start, range_inclusive_end, range_inclusive_exhausted, range_inclusive_len}
use Rattle.std.proofs.iter.Yields.{listed}
use Rattle.std.proofs.lemmas.Iterator.{YieldsList}
use Rattle.std.proofs.lemmas.List.FromFn.{length-range_with_len, get_or-range_with_len}

-- how many numbers are left
abbrev pub span : RangeInclusive ℕ → ℕ
span s = range_inclusive_len (λ x y. y - x) (range_inclusive_start s) (range_inclusive_end s) (range_inclusive_exhausted s)

abbrev pub Steps : RangeInclusive ℕ → Option ℕ → RangeInclusive ℕ → Type 0
Steps s r t = (range_inclusive_end t ≡ range_inclusive_end s) × MatchOption r ((span s ≡ 0) × (t ≡ s)) (λ x. (x ≡ range_inclusive_start s) × (span t + 1 ≡ span s) × (range_inclusive_exhausted t ≡ false → range_inclusive_start t ≡ range_inclusive_start s + 1))

abbrev shown : RangeInclusive ℕ → List ℕ
shown s = range_with_len (range_inclusive_start s) (span s)

go : (s : RangeInclusive ℕ) (x : ℕ) (t : RangeInclusive ℕ) → Steps s (Some x) t → shown s ≡ x ∷ shown t
go s x t p = ap (range_with_len (range_inclusive_start s)) more ∙ later (range_inclusive_exhausted t) refl
  where
    more : span s ≡ suc (span t)
    more = omega (arith, p.1.1)

    ended : range_inclusive_exhausted t ≡ true → span t ≡ 0
    ended e = ap (range_inclusive_len (λ x y. y - x) (range_inclusive_start t) (range_inclusive_end t)) e

    later : (b : Bool) → range_inclusive_exhausted t ≡ b → range_with_len (range_inclusive_start s) (suc (span t)) ≡ x ∷ shown t
    later false e = ap (λ a. range_inclusive_start s ∷ range_with_len a (span t)) (sym (p.1.2 e)) ∙ ap (λ y. y ∷ shown t) (sym p.1.0)
    later true e =
        ap (λ n. range_with_len (range_inclusive_start s) (suc n)) (ended e)
        ∙ ap (λ y. y ∷ []) (sym p.1.0)
        ∙ ap (λ n. x ∷ range_with_len (range_inclusive_start t) n) (sym (ended e))

pub YieldsList-from_inclusive : (s : RangeInclusive ℕ) (n : ℕ) → range_inclusive_start s ≡ 0 → range_inclusive_end s ≡ n → range_inclusive_exhausted s ≡ false → YieldsList Steps (λ x. x) s (range_with_len 0 (n + 1))
YieldsList-from_inclusive s n zero_first last fresh =
    let many : span s ≡ n + 1 = omega (arith, ap (range_inclusive_len (λ x y. y - x) (range_inclusive_start s) (range_inclusive_end s)) fresh, zero_first, last) in
    let all : shown s ≡ range_with_len 0 (n + 1) = ap (range_with_len (range_inclusive_start s)) many ∙ ap (λ a. range_with_len a (n + 1)) zero_first in
    subst (YieldsList Steps (λ x. x) s) all (record { runs = listed Steps (λ x. x) shown (λ u t p. ap (λ k. length (range_with_len (range_inclusive_start u) k)) p.1.0) go s })

-- what `find` says of a list of numbers, said of the numbers
pub first_number : (Yes No : ℕ → Type 0) (n : ℕ) (r : Option ℕ)
    → MatchOption r (AllWithin No (range_with_len 0 n) 0 (length (range_with_len 0 n))) (λ x. Yes x × (i : ℕ) × (i < length (range_with_len 0 n)) × HoldsAt (λ y. y ≡ x) (range_with_len 0 n) i × AllWithin No (range_with_len 0 n) 0 i)
    → MatchOption r ((k : ℕ) → k < n → No k) (λ x. (x < n) × Yes x × ((k : ℕ) → k < x → No k))
first_number Yes No n None h = λ k lt. subst No {x = get_or (range_with_len 0 n) k 0} {y = k} (omega (arith, get_or-range_with_len 0 n k 0 lt)) (h k 0 (omega arith) (omega (arith, length-range_with_len 0 n)))
first_number Yes No n (Some x) h =
    let i = h.1 in
    let lt : i < n = omega (arith, h.2, length-range_with_len 0 n) in
    let here : i ≡ x = omega (arith, get_or-range_with_len 0 n i 0 lt, h.3 0) in
    (omega arith, h.0, λ k less. subst No {x = get_or (range_with_len 0 n) k 0} {y = k} (omega (arith, get_or-range_with_len 0 n k 0 (omega arith))) (h.4 k 0 (omega arith) (omega arith)))
