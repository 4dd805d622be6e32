-- Lists of one length rise as the library orders them.
use Rattle.std.proofs.Common.{◌≡◌, ℕ, Bool, true, false, cond, ◌&&◌, ◌||◌, eqb, ltb, List, [], ◌∷◌, length, Some, Option, refl, ap, ◌∙◌, arith}
use Rattle.std.proofs.lemmas.Bool.{eqb-true}
use Rattle.std.proofs.lemmas.Bool.Decides.{nat_tests}
use Rattle.std.specs.Cmp.Lexicographic.{slice_cmp, slice_partial_cmp}
use Rattle.std.specs.Ordering.{is_lt, is_some_and, nat_cmp, ordering_then, partial_ordering_then, MatchOrdering}
use Rattle.std.specs.declared.cmp.Ordering.{Ordering}
use Rattle.std.specs.declared.cmp.Ordering.TheVariants.{Less, Equal, Greater}
use Rattle.demands.specs.Check.{rises}

first_decides : (lower same : Bool) (rest : Option Ordering) → is_some_and is_lt (partial_ordering_then (Some (cond lower Less (cond same Equal Greater))) rest) ≡ (lower || (same && is_some_and is_lt rest))
first_decides true same rest = refl
first_decides false true rest = refl
first_decides false false rest = refl

pub rises_from_lt : (xs ys : List ℕ) → length xs ≡ length ys → is_some_and is_lt (slice_partial_cmp (λ x y. Some (nat_cmp x y)) xs ys) ≡ rises xs ys
rises_from_lt [] [] long = refl
rises_from_lt [] (y ∷ ys) long = absurd (omega (arith, long))
rises_from_lt (x ∷ xs) [] long = absurd (omega (arith, long))
rises_from_lt (x ∷ xs) (y ∷ ys) long =
    first_decides (ltb x y) (eqb x y) (slice_partial_cmp (λ x y. Some (nat_cmp x y)) xs ys) ∙ ap (λ b. ltb x y || (eqb x y && b)) (rises_from_lt xs ys (omega (arith, long)))

-- what the library's answer says of the two
pub ordered : (xs ys : List ℕ) → length xs ≡ length ys → MatchOrdering (slice_cmp nat_cmp xs ys) (rises xs ys ≡ true) (xs ≡ ys) (rises ys xs ≡ true)
ordered [] [] long = refl
ordered [] (y ∷ ys) long = absurd (omega (arith, long))
ordered (x ∷ xs) [] long = absurd (omega (arith, long))
ordered (x ∷ xs) (y ∷ ys) long = by (ltb x y) (eqb x y) refl refl (ordered xs ys (omega (arith, long)))
  where
    later : (o : Ordering) → x ≡ y → MatchOrdering o (rises xs ys ≡ true) (xs ≡ ys) (rises ys xs ≡ true) → MatchOrdering o (rises (x ∷ xs) (y ∷ ys) ≡ true) (x ∷ xs ≡ y ∷ ys) (rises (y ∷ ys) (x ∷ xs) ≡ true)
    later Less same rest = grind (arith, nat_tests)
    later Equal same rest = λ i. same i ∷ rest i
    later Greater same rest = grind (arith, nat_tests)

    by : (lower same : Bool) → ltb x y ≡ lower → eqb x y ≡ same → MatchOrdering (slice_cmp nat_cmp xs ys) (rises xs ys ≡ true) (xs ≡ ys) (rises ys xs ≡ true)
        → MatchOrdering (ordering_then (cond lower Less (cond same Equal Greater)) (slice_cmp nat_cmp xs ys)) (rises (x ∷ xs) (y ∷ ys) ≡ true) (x ∷ xs ≡ y ∷ ys) (rises (y ∷ ys) (x ∷ xs) ≡ true)
    by true same l s rest = grind (arith, nat_tests)
    by false true l s rest = later (slice_cmp nat_cmp xs ys) (eqb-true x y s) rest
    by false false l s rest = grind (arith, nat_tests)
