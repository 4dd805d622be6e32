-- What `all` and `any` find in the numbers below a limit, said of the numbers.
use Rattle.std.proofs.Common.{ℕ, ◌<◌, Bool, true, false, length, get_or, subst, arith}
use Rattle.std.specs.Bool.{MatchBool}
use Rattle.std.specs.List.{range_with_len, AllWithin, HoldsAt}
use Rattle.std.proofs.lemmas.List.FromFn.{length-range_with_len, get_or-range_with_len}

module _ (P : ℕ → Type 0) (n : ℕ) where
  each_number : AllWithin P (range_with_len 0 n) 0 (length (range_with_len 0 n)) → (k : ℕ) → k < n → P k
  each_number all k lt =
      subst P {x = get_or (range_with_len 0 n) k 0} {y = k} (omega (arith, get_or-range_with_len 0 n k 0 lt)) (all k 0 (omega arith) (omega (arith, length-range_with_len 0 n)))

  some_number : (k : ℕ) × (k < length (range_with_len 0 n)) × HoldsAt P (range_with_len 0 n) k → (k : ℕ) × (k < n) × P k
  some_number h =
      let lt : h.0 < n = omega (arith, h.1, length-range_with_len 0 n) in
      (h.0, lt, subst P {x = get_or (range_with_len 0 n) h.0 0} {y = h.0} (omega (arith, get_or-range_with_len 0 n h.0 0 lt)) (h.2 0))

pub all_numbers : (Yes No : ℕ → Type 0) (n : ℕ) (r : Bool) → MatchBool r (AllWithin Yes (range_with_len 0 n) 0 (length (range_with_len 0 n))) ((k : ℕ) × (k < length (range_with_len 0 n)) × HoldsAt No (range_with_len 0 n) k) → MatchBool r ((k : ℕ) → k < n → Yes k) ((k : ℕ) × (k < n) × No k)
all_numbers Yes No n true h = each_number Yes n h
all_numbers Yes No n false h = some_number No n h

pub any_numbers : (Yes No : ℕ → Type 0) (n : ℕ) (r : Bool) → MatchBool r ((k : ℕ) × (k < length (range_with_len 0 n)) × HoldsAt Yes (range_with_len 0 n) k) (AllWithin No (range_with_len 0 n) 0 (length (range_with_len 0 n))) → MatchBool r ((k : ℕ) × (k < n) × Yes k) ((k : ℕ) → k < n → No k)
any_numbers Yes No n true h = some_number Yes n h
any_numbers Yes No n false h = each_number No n h
