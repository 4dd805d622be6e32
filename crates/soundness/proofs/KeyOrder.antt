-- The order of keys: strict, transitive, and rising from each rule of a sound image to every later one.
use Rattle.std.proofs.Common.{◌≡◌, ℕ, zero, suc, ◌+◌, ◌-◌, ◌<◌, true, ◌&&◌, eqb, ltb, ◌⊎◌, List, [], ◌∷◌, sym, ◌∙◌, subst, inl, inr, ⊎_elim, arith}
use Rattle.std.proofs.lemmas.Bool.{ltb-true, eqb-true, lt-ltb, eq-eqb, and_parts, and_from, or_cases, or_left, or_right, false≢true}
use Rattle.view.specs.Grammar.{key}
use Rattle.demands.specs.Check.{rises, key_rises}

-- the two ways in which a key comes before another
ways : (x y : ℕ) (xs ys : List ℕ) → rises (x ∷ xs) (y ∷ ys) ≡ true → (x < y) ⊎ ((x ≡ y) × (rises xs ys ≡ true))
ways x y xs ys e =
    ⊎_elim (λ h. inl (ltb-true x y h)) (λ h. let p = and_parts (eqb x y) (rises xs ys) h in inr (eqb-true x y p.0, p.1)) (or_cases (ltb x y) (eqb x y && rises xs ys) e)

lower : (x y : ℕ) (xs ys : List ℕ) → x < y → rises (x ∷ xs) (y ∷ ys) ≡ true
lower x y xs ys lt = or_left (ltb x y) (eqb x y && rises xs ys) (lt-ltb x y lt)

level : (x y : ℕ) (xs ys : List ℕ) → x ≡ y → rises xs ys ≡ true → rises (x ∷ xs) (y ∷ ys) ≡ true
level x y xs ys e h = or_right (ltb x y) (eqb x y && rises xs ys) (and_from (eqb x y) (rises xs ys) (eq-eqb x y e) h)

pub rises_not_itself : (xs : List ℕ) → rises xs xs ≡ true → ⊥
rises_not_itself [] e = false≢true e
rises_not_itself (x ∷ xs) e = ⊎_elim (λ lt. omega arith) (λ h. rises_not_itself xs h.1) (ways x x xs xs e)

pub rises_trans : (xs ys zs : List ℕ) → rises xs ys ≡ true → rises ys zs ≡ true → rises xs zs ≡ true
rises_trans [] ys zs p q = absurd (false≢true p)
rises_trans (x ∷ xs) [] zs p q = absurd (false≢true p)
rises_trans (x ∷ xs) (y ∷ ys) [] p q = absurd (false≢true q)
rises_trans (x ∷ xs) (y ∷ ys) (z ∷ zs) p q =
    ⊎_elim
    (λ a. ⊎_elim (λ c. lower x z xs zs (omega (arith, a, c))) (λ c. lower x z xs zs (omega (arith, a, c.0))) (ways y z ys zs q))
    (λ a. ⊎_elim (λ c. lower x z xs zs (omega (arith, a.0, c))) (λ c. level x z xs zs (a.0 ∙ c.0) (rises_trans xs ys zs a.1 c.1)) (ways y z ys zs q))
    (ways x y xs ys p)

-- the keys of rules between which others stand
rising_by : (b : List ℕ) (n : ℕ) → ((r : ℕ) → r < n → key_rises b r ≡ true) → (i d : ℕ) → i + suc d < n → rises (key b i) (key b (i + suc d)) ≡ true
rising_by b n each i zero lt =
    let at : suc i ≡ i + 1 = omega arith in
    subst (λ j. rises (key b i) (key b j) ≡ true) at (each (suc i) (omega arith))
rising_by b n each i (suc d) lt =
    let at : suc (i + suc d) ≡ i + suc (suc d) = omega arith in
    rises_trans (key b i) (key b (i + suc d)) (key b (i + suc (suc d))) (rising_by b n each i d (omega arith)) (subst (λ j. rises (key b (i + suc d)) (key b j) ≡ true) at (each (suc (i + suc d)) (omega arith)))

pub rising : (b : List ℕ) (n : ℕ) → ((r : ℕ) → r < n → key_rises b r ≡ true) → (i j : ℕ) → i < j → j < n → rises (key b i) (key b j) ≡ true
rising b n each i j ij jn = go (apart i j ij)
  where
    apart : (x y : ℕ) → x < y → (d : ℕ) × (y ≡ x + suc d)
    apart x y lt = (y - suc x, omega arith)

    go : (d : ℕ) × (j ≡ i + suc d) → rises (key b i) (key b j) ≡ true
    go p = subst (λ k. rises (key b i) (key b k) ≡ true) (sym p.1) (rising_by b n each i p.0 (omega (arith, p.1)))
