-- Chains of places: one item more, put in front of the chain of its category and form.
use Rattle.std.proofs.Common.{◌≡◌, ℕ, suc, ◌+◌, ◌*◌, ◌<◌, ◌≤◌, Bool, true, false, cond, ◌&&◌, eqb, List, [], ◌∷◌, length, get_or, set, replicate, Some, None, Option, sym, refl, ap, ◌∙◌, subst, ⊎_elim, arith}
use Rattle.std.specs.List.{AllByRecursion}
use Rattle.std.proofs.lemmas.List.{get_or-replicate, get_or-set_other, get_or-set_same}
use Rattle.std.proofs.lemmas.Bool.{and_parts, and_cases, cond-false, cond-true, eqb-false, eqb-true}
use Rattle.chart.specs.declared.item.Item.{Item}
use Rattle.chart.specs.Index.{Chain, places_of}

-- the chains of two arrays are those of the items, whose places are counted from i
abbrev pub Chained : List (Option ℕ) → List (Option ℕ) → ℕ → List Item → Type 0
Chained heads next i xs = (c k : ℕ) → c < 16 → k < 8 → Chain next (get_or heads (8 * c + k) None) (places_of c k i xs)

-- whether an item has the category and the form
abbrev fits : ℕ → ℕ → Item → Bool
fits c k x = eqb x.category c && eqb x.form k

-- the places of items are not below where they are counted from
places_high : (c k i : ℕ) (xs : List Item) → AllByRecursion (λ q. i ≤ q) (places_of c k i xs)
places_high c k i [] = tt
places_high c k i (x ∷ xs) = by (fits c k x) (higher (places_of c k (suc i) xs) (places_high c k (suc i) xs))
  where
    higher : (qs : List ℕ) → AllByRecursion (λ q. suc i ≤ q) qs → AllByRecursion (λ q. i ≤ q) qs
    higher [] h = tt
    higher (q ∷ qs) h = (omega (arith, h.0), higher qs h.1)

    by : (b : Bool) → AllByRecursion (λ q. i ≤ q) (places_of c k (suc i) xs) → AllByRecursion (λ q. i ≤ q) (cond b (i ∷ places_of c k (suc i) xs) (places_of c k (suc i) xs))
    by true h = (omega arith, h)
    by false h = h

-- a write below them leaves a chain
chain_kept : (next : List (Option ℕ)) (i : ℕ) (v p : Option ℕ) (qs : List ℕ) → AllByRecursion (λ q. suc i ≤ q) qs → Chain next p qs → Chain (set next i v) p qs
chain_kept next i v p [] high chain = chain
chain_kept next i v p (q ∷ qs) high (e, rest) =
    (e, subst (λ k. Chain (set next i v) k qs) (sym (get_or-set_other next i q v None (λ same. let le = high.0 in absurd (omega arith)))) (chain_kept next i v (get_or next q None) qs high.1 rest))

-- one slot for each category and form
same_slot : (c k a b : ℕ) → k < 8 → b < 8 → 8 * c + k ≡ 8 * a + b → (c ≡ a) × (k ≡ b)
same_slot c k a b lt below same = (omega arith, omega arith)

pub none_chained : (i : ℕ) → Chained (replicate 128 None) (replicate 512 None) i []
none_chained i c k few small = get_or-replicate 128 (8 * c + k) None None (omega arith)

pub chained_more : (heads next : List (Option ℕ)) (i : ℕ) (x : Item) (xs : List Item) → length heads ≡ 128 → length next ≡ 512 → i < 512 → x.category < 16 → x.form < 8 → Chained heads next (suc i) xs → Chained (set heads (8 * x.category + x.form) (Some i)) (set next i (get_or heads (8 * x.category + x.form) None)) i (x ∷ xs)
chained_more heads next i x xs slots places below category form so_far c k few small = by (fits c k x) refl
  where
    by : (b : Bool) → fits c k x ≡ b → Chain (set next i (get_or heads (8 * x.category + x.form) None)) (get_or (set heads (8 * x.category + x.form) (Some i)) (8 * c + k) None) (places_of c k i (x ∷ xs))
    by true e =
        let parts = and_parts (eqb x.category c) (eqb x.form k) e in
        let same_category = eqb-true x.category c parts.0 in
        let same_form = eqb-true x.form k parts.1 in
        let same : 8 * x.category + x.form ≡ 8 * c + k = omega arith in
        let head = ap (λ s. get_or (set heads s (Some i)) (8 * c + k) None) same ∙ get_or-set_same heads (8 * c + k) (Some i) None (omega arith) in
        let after = get_or-set_same next i (get_or heads (8 * x.category + x.form) None) None (omega arith) ∙ ap (λ s. get_or heads s None) same in
        let rest = chain_kept next i (get_or heads (8 * x.category + x.form) None) (get_or heads (8 * c + k) None) (places_of c k (suc i) xs) (places_high c k (suc i) xs) (so_far c k few small) in
        subst (λ qs. Chain (set next i (get_or heads (8 * x.category + x.form) None)) (get_or (set heads (8 * x.category + x.form) (Some i)) (8 * c + k) None) qs) (sym (cond-true (fits c k x) (i ∷ places_of c k (suc i) xs) (places_of c k (suc i) xs) e)) (head, subst (λ p. Chain (set next i (get_or heads (8 * x.category + x.form) None)) p (places_of c k (suc i) xs)) (sym after) rest)
    by false e =
        let other : 8 * c + k ≡ 8 * x.category + x.form → ⊥ = λ same. let p = same_slot c k x.category x.form small form same in apart p e in
        let head = get_or-set_other heads (8 * x.category + x.form) (8 * c + k) (Some i) None other in
        let rest = chain_kept next i (get_or heads (8 * x.category + x.form) None) (get_or heads (8 * c + k) None) (places_of c k (suc i) xs) (places_high c k (suc i) xs) (so_far c k few small) in
        let kept = subst (λ p. Chain (set next i (get_or heads (8 * x.category + x.form) None)) p (places_of c k (suc i) xs)) (sym head) rest in
        subst (λ qs. Chain (set next i (get_or heads (8 * x.category + x.form) None)) (get_or (set heads (8 * x.category + x.form) (Some i)) (8 * c + k) None) qs) (sym (cond-false (fits c k x) (i ∷ places_of c k (suc i) xs) (places_of c k (suc i) xs) e)) kept
      where
        apart : (c ≡ x.category) × (k ≡ x.form) → fits c k x ≡ false → ⊥
        apart p e = ⊎_elim (λ h. eqb-false x.category c h (sym p.0)) (λ h. eqb-false x.form k h (sym p.1)) (and_cases (eqb x.category c) (eqb x.form k) e)
