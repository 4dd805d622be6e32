-- Places in a code: the subtree at each, where its arguments stand, and what it has of the whole tree.
use Rattle.std.proofs.Common.{◌≡◌, ℕ, zero, suc, ◌+◌, ◌-◌, ◌<◌, ◌≤◌, ◌⊎◌, List, [], ◌∷◌, ◌++◌, length, Some, sym, refl, ap, ◌∙◌, subst, inl, inr, arith, length-append}
use Rattle.std.specs.List.{slice_get}
use Rattle.std.proofs.lemmas.Bool.{cases_lt}
use Rattle.grammar.specs.Signatures.{Signature}
use Rattle.grammar.specs.Trees.{Tree, Trees, code, codes, depth, deepest, HasCategory, HaveCategories}
use Rattle.grammar.specs.Trees.Tree.{node}
use Rattle.grammar.specs.Trees.Trees.{none, more}
use Rattle.saying.specs.Mute.{At, AtIn, RowAt}
use Rattle.saying.proofs.Muteness.{at_within}

pub at_start : (t : Tree) → At t 0 t
at_start (node f ts) = inl (refl, refl)

-- each place of a code has a subtree
mutual
  pub at_some : (t : Tree) (i : ℕ) → i < length (code t) → (u : Tree) × At t i u
  at_some (node f ts) zero lt = (node f ts, inl (refl, refl))
  at_some (node f ts) (suc i) lt = let below = in_some ts i (omega arith) in (below.0, inr (i, refl, below.1))

  in_some : (ts : Trees) (i : ℕ) → i < length (codes ts) → (u : Tree) × AtIn ts i u
  in_some none i lt = absurd (omega arith)
  in_some (more t ts) i lt = by (cases_lt i (length (code t))) (at_some t i) (in_some ts (i - length (code t)))
    where
      by : (i < length (code t)) ⊎ (length (code t) ≤ i) → (i < length (code t) → (u : Tree) × At t i u) → (i - length (code t) < length (codes ts) → (u : Tree) × AtIn ts (i - length (code t)) u) → (u : Tree) × AtIn (more t ts) i u
      by (inl here) first later = let p = first here in (p.0, inl p.1)
      by (inr past) first later =
          let p = later (omega (arith, length-append (code t) (codes ts))) in (p.0, inr (i - length (code t), omega arith, p.1))

-- and no other
mutual
  pub at_one : (t : Tree) (i : ℕ) (u v : Tree) → At t i u → At t i v → u ≡ v
  at_one (node f ts) i u v (inl p) (inl q) = p.1 ∙ sym q.1
  at_one (node f ts) i u v (inl p) (inr q) = absurd (omega (arith, p.0, q.1))
  at_one (node f ts) i u v (inr p) (inl q) = absurd (omega (arith, p.1, q.0))
  at_one (node f ts) i u v (inr p) (inr q) =
      let same : q.0 ≡ p.0 = omega (arith, p.1, q.1) in in_one ts p.0 u v p.2 (subst (λ j. AtIn ts j v) same q.2)

  in_one : (ts : Trees) (i : ℕ) (u v : Tree) → AtIn ts i u → AtIn ts i v → u ≡ v
  in_one none i u v p q = absurd p
  in_one (more t ts) i u v (inl p) (inl q) = at_one t i u v p q
  in_one (more t ts) i u v (inl p) (inr q) = absurd (omega (arith, at_within t i u p, q.1))
  in_one (more t ts) i u v (inr p) (inl q) = absurd (omega (arith, at_within t i v q, p.1))
  in_one (more t ts) i u v (inr p) (inr q) =
      let same : q.0 ≡ p.0 = omega (arith, p.1, q.1) in in_one ts p.0 u v p.2 (subst (λ j. AtIn ts j v) same q.2)

-- a subtree of a subtree is one of the whole
mutual
  pub at_below : (t : Tree) (i j : ℕ) (u v : Tree) → At t i u → At u j v → At t (i + j) v
  at_below (node f ts) i j u v (inl p) q =
      let same : j ≡ i + j = omega (arith, p.0) in subst (λ k. At (node f ts) k v) same (subst (λ w. At w j v) p.1 q)
  at_below (node f ts) i j u v (inr p) q = inr (p.0 + j, omega (arith, p.1), in_below ts p.0 j u v p.2 q)

  in_below : (ts : Trees) (i j : ℕ) (u v : Tree) → AtIn ts i u → At u j v → AtIn ts (i + j) v
  in_below none i j u v p q = p
  in_below (more t ts) i j u v (inl p) q = inl (at_below t i j u v p q)
  in_below (more t ts) i j u v (inr p) q = inr (p.0 + j, omega (arith, p.1), in_below ts p.0 j u v p.2 q)

row_of : (t : Tree) (i j : ℕ) (us : Trees) → ((k : ℕ) (v : Tree) → AtIn us k v → At t (i + (j + k)) v) → RowAt t (i + j) us
row_of t i j none h = tt
row_of t i j (more u us) h =
    let first : At t (i + (j + 0)) u = h 0 u (inl (at_start u)) in
    let here : i + (j + 0) ≡ i + j = omega arith in
    let on : i + (j + length (code u)) ≡ i + j + length (code u) = omega arith in (
      subst (λ k. At t k u) here first,
      subst (λ k. RowAt t k us) on (row_of t i (j + length (code u)) us (λ k v p.
          let past : i + (j + (length (code u) + k)) ≡ i + (j + length (code u) + k) = omega arith in
          subst (λ n. At t n v) past (h (length (code u) + k) v (inr (k, refl, p))))),
    )

-- a node's arguments stand right after it
pub arguments_at : (t : Tree) (i f : ℕ) (ts : Trees) → At t i (node f ts) → RowAt t (suc i) ts
arguments_at t i f ts p =
    let start : i + 1 ≡ suc i = omega arith in
    subst (λ k. RowAt t k ts) start (row_of t i 1 ts (λ k v q. at_below t i (1 + k) (node f ts) v p (inr (k, omega arith, q))))

-- the byte at the place is the node's function
nth_front : (xs ys : List ℕ) (i x : ℕ) → slice_get xs i ≡ Some x → slice_get (xs ++ ys) i ≡ Some x
nth_front [] ys i x h = let z : ◌≡◌ {A = ℕ} 0 1 = cc in absurd (omega arith)
nth_front (y ∷ xs) ys zero x h = h
nth_front (y ∷ xs) ys (suc i) x h = nth_front xs ys i x h

nth_back : (xs ys : List ℕ) (i : ℕ) → slice_get (xs ++ ys) (length xs + i) ≡ slice_get ys i
nth_back [] ys i = ap (slice_get ys) (omega arith)
nth_back (x ∷ xs) ys i = let on : suc (length xs) + i ≡ suc (length xs + i) = omega arith in ap (slice_get (x ∷ (xs ++ ys))) on ∙ nth_back xs ys i

mutual
  pub at_byte : (t : Tree) (i f : ℕ) (us : Trees) → At t i (node f us) → slice_get (code t) i ≡ Some f
  at_byte (node g ts) i f us (inl p) =
      let same : f ≡ g = cc p.1 in ap (slice_get (g ∷ codes ts)) p.0 ∙ ap Some (sym same)
  at_byte (node g ts) i f us (inr p) = ap (slice_get (g ∷ codes ts)) p.1 ∙ in_byte ts p.0 f us p.2

  in_byte : (ts : Trees) (i f : ℕ) (us : Trees) → AtIn ts i (node f us) → slice_get (codes ts) i ≡ Some f
  in_byte none i f us h = absurd h
  in_byte (more t ts) i f us (inl h) = nth_front (code t) (codes ts) i f (at_byte t i f us h)
  in_byte (more t ts) i f us (inr p) =
      ap (slice_get (code t ++ codes ts)) p.1 ∙ nth_back (code t) (codes ts) p.0 ∙ in_byte ts p.0 f us p.2

-- a subtree has a category, is no deeper than the whole, and its code lies in the whole code
mutual
  pub at_category : (s : Signature) (c : ℕ) (t : Tree) (i : ℕ) (u : Tree) → HasCategory s c t → At t i u → (d : ℕ) × HasCategory s d u
  at_category s c (node f ts) i u h (inl p) = (c, subst (HasCategory s c) (sym p.1) h)
  at_category s c (node f ts) i u h (inr p) = in_category s h.0.arguments ts p.0 u h.3 p.2

  in_category : (s : Signature) (cs : List ℕ) (ts : Trees) (i : ℕ) (u : Tree) → HaveCategories s cs ts → AtIn ts i u → (d : ℕ) × HasCategory s d u
  in_category s cs none i u h p = absurd p
  in_category s cs (more t ts) i u h (inl p) = at_category s h.0 t i u h.3 p
  in_category s cs (more t ts) i u h (inr p) = in_category s h.1 ts p.0 u h.4 p.2

mutual
  pub at_depth : (t : Tree) (i : ℕ) (u : Tree) → At t i u → depth u ≤ depth t
  at_depth (node f ts) i u (inl p) = omega (arith, ap depth p.1)
  at_depth (node f ts) i u (inr p) = omega (arith, in_depth ts p.0 u p.2)

  in_depth : (ts : Trees) (i : ℕ) (u : Tree) → AtIn ts i u → depth u ≤ deepest ts
  in_depth none i u p = absurd p
  in_depth (more t ts) i u (inl p) = omega (arith, at_depth t i u p)
  in_depth (more t ts) i u (inr p) = omega (arith, in_depth ts p.0 u p.2)

mutual
  pub at_end : (t : Tree) (i : ℕ) (u : Tree) → At t i u → i + length (code u) ≤ length (code t)
  at_end (node f ts) i u (inl p) = omega (arith, p.0, ap (λ v. length (code v)) p.1)
  at_end (node f ts) i u (inr p) = omega (arith, p.1, in_end ts p.0 u p.2)

  in_end : (ts : Trees) (i : ℕ) (u : Tree) → AtIn ts i u → i + length (code u) ≤ length (codes ts)
  in_end none i u p = absurd p
  in_end (more t ts) i u (inl p) = omega (arith, at_end t i u p, length-append (code t) (codes ts))
  in_end (more t ts) i u (inr p) = omega (arith, p.1, in_end ts p.0 u p.2, length-append (code t) (codes ts))
