-- What the check demands of sound bytes, taken apart.
use Rattle.std.proofs.Common.{◌≡◌, ℕ, zero, suc, ◌+◌, ◌<◌, ◌≤◌, Bool, true, false, cond, leb, List, [], ◌∷◌, ◌++◌, Some, None, sym, refl, ap, ◌∙◌, subst, ⊎_elim, arith}
use Rattle.std.specs.List.{range_with_len, flat_map, AllByRecursion}
use Rattle.std.proofs.lemmas.Bool.{leb-true, and_parts, cases_eq}
use Rattle.grammar.proofs.Optional.{none_some}
use Rattle.demands.specs.Check.{Demand, first_broken, each, every, within}

-- where none of the demands is broken, each is kept
pub all_kept : (ds : List Demand) → first_broken ds ≡ None → AllByRecursion (λ d. d.kept ≡ true) ds
all_kept [] e = tt
all_kept (d ∷ ds) e = by d.kept refl e (λ k. all_kept ds k)
  where
    by : (b : Bool) → d.kept ≡ b → cond b (first_broken ds) (Some d.fault) ≡ None → (first_broken ds ≡ None → AllByRecursion (λ x. x.kept ≡ true) ds) → (d.kept ≡ true) × AllByRecursion (λ x. x.kept ≡ true) ds
    by true k h rest = (k, rest h)
    by false k h rest = absurd (none_some d.fault (sym h))

pub kept_parts : (xs ys : List Demand) → first_broken (xs ++ ys) ≡ None → (first_broken xs ≡ None) × (first_broken ys ≡ None)
kept_parts [] ys e = (refl, e)
kept_parts (d ∷ xs) ys e = by d.kept refl e (λ k. kept_parts xs ys k)
  where
    by : (b : Bool) → d.kept ≡ b → cond b (first_broken (xs ++ ys)) (Some d.fault) ≡ None → (first_broken (xs ++ ys) ≡ None → (first_broken xs ≡ None) × (first_broken ys ≡ None)) → (first_broken (d ∷ xs) ≡ None) × (first_broken ys ≡ None)
    by true k h rest = (simp (k, first_broken) (rest h).0, (rest h).1)
    by false k h rest = absurd (none_some d.fault (sym h))

kept_from : (f : ℕ → List Demand) (n a : ℕ) → first_broken (flat_map f (range_with_len a n)) ≡ None → (i : ℕ) → i < n → first_broken (f (a + i)) ≡ None
kept_from f zero a e i lt = absurd (omega arith)
kept_from f (suc n) a e zero lt =
    let z : a ≡ a + 0 = omega arith in subst (λ j. first_broken (f j) ≡ None) z (kept_parts (f a) (flat_map f (range_with_len (a + 1) n)) e).0
kept_from f (suc n) a e (suc i) lt =
    let z : a + 1 + i ≡ a + suc i = omega arith in
    subst (λ j. first_broken (f j) ≡ None) z (kept_from f n (a + 1) (kept_parts (f a) (flat_map f (range_with_len (a + 1) n)) e).1 i (omega arith))

pub kept_each : (n : ℕ) (f : ℕ → List Demand) → first_broken (each n f) ≡ None → (i : ℕ) → i < n → first_broken (f i) ≡ None
kept_each n f e i lt = let z : 0 + i ≡ i = omega arith in subst (λ j. first_broken (f j) ≡ None) z (kept_from f n 0 e i lt)

pub every_true : (n : ℕ) (p : ℕ → Bool) → every n p ≡ true → (i : ℕ) → i < n → p i ≡ true
every_true zero p e i lt = absurd (omega arith)
every_true (suc n) p e i lt =
    let parts = and_parts (every n p) (p n) e in
    ⊎_elim (λ same. ap p same ∙ parts.1) (λ apart. every_true n p parts.0 i (omega (arith, apart))) (cases_eq i n)

pub within_true : (low high n : ℕ) → within low high n ≡ true → (low ≤ n) × (n ≤ high)
within_true low high n e = let p = and_parts (leb low n) (leb n high) e in (leb-true low n p.0, leb-true n high p.1)
