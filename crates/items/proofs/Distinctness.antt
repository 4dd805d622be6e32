-- Lists without repetition: how they are made, and that the values that they hold decide their length.
use Rattle.std.proofs.Common.{◌≡◌, ℕ, ◌≤◌, Bool, true, false, cond, ◌||◌, List, [], ◌∷◌, ◌++◌, length, Decides, sym, refl, ap, subst, inl, inr, ⊎_elim, arith, length-append}
use Rattle.std.proofs.lemmas.Bool.{or_cases, or_left, or_right, both_ways}
use Rattle.grammar.specs.Lists.{Holds, Distinct, Counted}
use Rattle.readings.proofs.Membership.{Pairwise, all_holds, holds_cases, holds_left, holds_right}

module _ {A : Type 0} where
  abbrev pub Apart : A → A → Type 0
  Apart x y = x ≡ y → ⊥

  pub pairwise_distinct : (xs : List A) → Pairwise Apart xs → Distinct xs
  pairwise_distinct [] p = tt
  pairwise_distinct (x ∷ xs) p = (λ h. all_holds (Apart x) xs p.0 x h refl, pairwise_distinct xs p.1)

  -- where a held value stands
  split : (ys : List A) (x : A) → Holds ys x → (front : List A) × (back : List A) × (ys ≡ front ++ (x ∷ back))
  split [] x h = absurd h
  split (y ∷ ys) x (inl e) = ([], ys, λ i. sym e i ∷ ys)
  split (y ∷ ys) x (inr h) = let p = split ys x h in (y ∷ p.0, p.1, λ i. y ∷ p.2 i)

  without : (front back : List A) (x z : A) → Holds (front ++ (x ∷ back)) z → (z ≡ x → ⊥) → Holds (front ++ back) z
  without front back x z h apart =
      ⊎_elim (λ k. holds_left front back z k) (λ k. ⊎_elim (λ e. absurd (apart e)) (λ l. holds_right front back z l) k) (holds_cases front (x ∷ back) z h)

  -- a list without repetition is no longer than one that holds all that it holds
  pub distinct_fits : (xs ys : List A) → Distinct xs → ((z : A) → Holds xs z → Holds ys z) → length xs ≤ length ys
  distinct_fits [] ys p f = omega arith
  distinct_fits (x ∷ xs) ys p f =
      let s = split ys x (f x (inl refl)) in
      let rest : length xs ≤ length (s.0 ++ s.1) = distinct_fits xs (s.0 ++ s.1) p.1 (λ z h. without s.0 s.1 x z (subst (λ l. Holds l z) s.2 (f z (inr h))) (λ e. p.0 (subst (Holds xs) e h))) in
      omega (arith, length-append s.0 s.1, length-append s.0 (x ∷ s.1), ap length s.2)

  pub count_is_unique : (P : A → Type 0) (n k : ℕ) → Counted P n → Counted P k → n ≡ k
  count_is_unique P n k p q =
      let up : length p.values ≤ length q.values = distinct_fits p.values q.values p.distinct (λ z h. (q.exactly z).1 ((p.exactly z).0 h)) in
      let down : length q.values ≤ length p.values = distinct_fits q.values p.values q.distinct (λ z h. (p.exactly z).1 ((q.exactly z).0 h)) in
      omega (arith, p.count, q.count)

-- by a test for equality
module _ {A : Type 0} (same : A → A → Bool) where
  abbrev pub among : A → List A → Bool
  among x [] = false
  among x (y ∷ ys) = same x y || among x ys

  -- each value once
  abbrev pub each_once : List A → List A
  each_once [] = []
  each_once (x ∷ xs) = let rest = each_once xs in cond (among x rest) rest (x ∷ rest)

module _ {A : Type 0} (same : A → A → Bool) (decides : (x y : A) → Decides (same x y) (x ≡ y)) where
  among_holds : (x : A) (ys : List A) → among same x ys ≡ true → Holds ys x
  among_holds x [] e = absurd (both_ways false refl e)
  among_holds x (y ∷ ys) e = ⊎_elim (λ h. inl ((decides x y).0 h)) (λ h. inr (among_holds x ys h)) (or_cases (same x y) (among same x ys) e)

  holds_among : (x : A) (ys : List A) → Holds ys x → among same x ys ≡ true
  holds_among x [] h = absurd h
  holds_among x (y ∷ ys) (inl e) = or_left (same x y) (among same x ys) ((decides x y).1 e)
  holds_among x (y ∷ ys) (inr h) = or_right (same x y) (among same x ys) (holds_among x ys h)

  pub each_once_distinct : (xs : List A) → Distinct (each_once same xs)
  each_once_distinct [] = tt
  each_once_distinct (x ∷ xs) = by (among same x (each_once same xs)) refl (each_once_distinct xs)
    where
      by : (b : Bool) → among same x (each_once same xs) ≡ b → Distinct (each_once same xs) → Distinct (cond b (each_once same xs) (x ∷ each_once same xs))
      by true e d = d
      by false e d = (λ h. both_ways _ e (holds_among x (each_once same xs) h), d)

  pub once_holds : (xs : List A) (z : A) → Holds (each_once same xs) z → Holds xs z
  once_holds [] z h = h
  once_holds (x ∷ xs) z h = by (among same x (each_once same xs)) (λ k. once_holds xs z k) h
    where
      by : (b : Bool) → (Holds (each_once same xs) z → Holds xs z) → Holds (cond b (each_once same xs) (x ∷ each_once same xs)) z → Holds (x ∷ xs) z
      by true f k = inr (f k)
      by false f (inl e) = inl e
      by false f (inr k) = inr (f k)

  pub holds_once : (xs : List A) (z : A) → Holds xs z → Holds (each_once same xs) z
  holds_once [] z h = h
  holds_once (x ∷ xs) z (inl e) = by (among same x (each_once same xs)) refl
    where
      by : (b : Bool) → among same x (each_once same xs) ≡ b → Holds (cond b (each_once same xs) (x ∷ each_once same xs)) z
      by true told = subst (Holds (each_once same xs)) (sym e) (among_holds x (each_once same xs) told)
      by false told = inl e
  holds_once (x ∷ xs) z (inr h) = by (among same x (each_once same xs)) (holds_once xs z h)
    where
      by : (b : Bool) → Holds (each_once same xs) z → Holds (cond b (each_once same xs) (x ∷ each_once same xs)) z
      by true k = k
      by false k = inr k
