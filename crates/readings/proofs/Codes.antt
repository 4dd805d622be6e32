-- Codes: no code of a tree is a proper front of another's, and the order of codes is strict, and total on the trees of a category.
use Rattle.std.proofs.Common.{◌≡◌, ℕ, ◌<◌, ◌⊎◌, List, [], ◌∷◌, ◌++◌, Some, sym, refl, ap, ◌∙◌, subst, subst₂, inl, inr, ⊎_elim, arith}
use Rattle.std.specs.List.{slice_get}
use Rattle.std.proofs.lemmas.List.{append-nil, append_assoc}
use Rattle.std.proofs.lemmas.Bool.{cases_order}
use Rattle.grammar.specs.Order.{Before}
use Rattle.grammar.specs.Signatures.{Signature, Function}
use Rattle.grammar.specs.Trees.{Tree, Trees, code, codes, HasCategory, HaveCategories}
use Rattle.grammar.specs.Trees.Tree.{node}
use Rattle.grammar.specs.Trees.Trees.{none, more}
use Rattle.readings.specs.Laws.{OrderIsStrict, OrderIsTotal, CodesTellTreesApart}

pub never_before_itself : (xs : List ℕ) → Before xs xs → ⊥
never_before_itself [] h = h
never_before_itself (x ∷ xs) (inl lt) = omega arith
never_before_itself (x ∷ xs) (inr h) = never_before_itself xs h.1

pub before_trans : (xs ys zs : List ℕ) → Before xs ys → Before ys zs → Before xs zs
before_trans [] ys zs p q = absurd p
before_trans (x ∷ xs) [] zs p q = absurd p
before_trans (x ∷ xs) (y ∷ ys) [] p q = absurd q
before_trans (x ∷ xs) (y ∷ ys) (z ∷ zs) (inl p) (inl q) = inl (omega arith)
before_trans (x ∷ xs) (y ∷ ys) (z ∷ zs) (inl p) (inr q) = let e = q.0 in inl (omega arith)
before_trans (x ∷ xs) (y ∷ ys) (z ∷ zs) (inr p) (inl q) = let e = p.0 in inl (omega arith)
before_trans (x ∷ xs) (y ∷ ys) (z ∷ zs) (inr p) (inr q) = inr (p.0 ∙ q.0, before_trans xs ys zs p.1 q.1)

before_prefix : (xs ys zs : List ℕ) → Before ys zs → Before (xs ++ ys) (xs ++ zs)
before_prefix [] ys zs h = h
before_prefix (x ∷ xs) ys zs h = inr (refl, before_prefix xs ys zs h)

-- the codes differ before either ends, whatever follows them
abbrev pub Precedes : Tree → Tree → Type 0
Precedes t u = (r q : List ℕ) → Before (code t ++ r) (code u ++ q)

abbrev pub PrecedeAll : Trees → Trees → Type 0
PrecedeAll ts us = (r q : List ℕ) → Before (codes ts ++ r) (codes us ++ q)

pub precedes_before : (t u : Tree) → Precedes t u → Before (code t) (code u)
precedes_before t u h = subst₂ Before (append-nil (code t)) (append-nil (code u)) (h [] [])

pub lower_root : (f g : ℕ) (ts us : Trees) → f < g → Precedes (node f ts) (node g us)
lower_root f g ts us lt r q = inl lt

pub same_root : (f : ℕ) (ts us : Trees) → PrecedeAll ts us → Precedes (node f ts) (node f us)
same_root f ts us h r q = inr (refl, h r q)

pub earlier_first : (t u : Tree) (ts us : Trees) → Precedes t u → PrecedeAll (more t ts) (more u us)
earlier_first t u ts us h r q =
    subst₂ Before (sym (append_assoc (code t) (codes ts) r)) (sym (append_assoc (code u) (codes us) q)) (h (codes ts ++ r) (codes us ++ q))

pub same_first : (t : Tree) (ts us : Trees) → PrecedeAll ts us → PrecedeAll (more t ts) (more t us)
same_first t ts us h r q =
    subst₂ Before (sym (append_assoc (code t) (codes ts) r)) (sym (append_assoc (code t) (codes us) q)) (before_prefix (code t) _ _ (h r q))

-- the function of a number is one
same_function : (s : Signature) (f g : ℕ) (F G : Function) → slice_get s.functions f ≡ Some F → slice_get s.functions g ≡ Some G → f ≡ g → F.arguments ≡ G.arguments
same_function s f g F G p q e = let same : F ≡ G = cc in ap (λ H. H.arguments) same

-- trees in order, or equal
mutual
  ordered : (t : Tree) (s : Signature) (c k : ℕ) (u : Tree) → HasCategory s c t → HasCategory s k u → (t ≡ u) ⊎ (Precedes t u ⊎ Precedes u t)
  ordered (node f ts) s c k (node g us) p q =
      ⊎_elim
      (λ e.
      let same = same_function s f g p.0 q.0 p.1 q.1 e in
      ⊎_elim
      (λ all. inl (λ i. node (e i) (all i)))
      (λ way. inr (⊎_elim
      (λ h. inl (subst (λ n. Precedes (node f ts) (node n us)) e (same_root f ts us h)))
      (λ h. inr (subst (λ n. Precedes (node n us) (node f ts)) e (same_root f us ts h)))
      way))
      (all_ordered ts s p.0.arguments us p.3 (subst (λ cs. HaveCategories s cs us) (sym same) q.3)))
      (λ way. inr (⊎_elim (λ lt. inl (lower_root f g ts us lt)) (λ gt. inr (lower_root g f us ts gt)) way))
      (cases_order f g)

  all_ordered : (ts : Trees) (s : Signature) (cs : List ℕ) (us : Trees) → HaveCategories s cs ts → HaveCategories s cs us → (ts ≡ us) ⊎ (PrecedeAll ts us ⊎ PrecedeAll us ts)
  all_ordered none s cs none p q = inl refl
  all_ordered none s cs (more u us) p q = let z : ◌≡◌ {A = ℕ} 0 1 = cc (p, q.2) in absurd (omega arith)
  all_ordered (more t ts) s cs none p q = let z : ◌≡◌ {A = ℕ} 0 1 = cc (q, p.2) in absurd (omega arith)
  all_ordered (more t ts) s cs (more u us) p q =
      ⊎_elim
      (λ e. ⊎_elim
      (λ all. inl (λ i. more (e i) (all i)))
      (λ way. inr (⊎_elim
      (λ h. inl (subst (λ v. PrecedeAll (more t ts) (more v us)) e (same_first t ts us h)))
      (λ h. inr (subst (λ v. PrecedeAll (more v us) (more t ts)) e (same_first t us ts h)))
      way))
      (all_ordered ts s p.1 us p.4 (subst (λ ks. HaveCategories s ks us) (let same : q.1 ≡ p.1 = cc (p.2, q.2) in same) q.4)))
      (λ way. inr (⊎_elim (λ h. inl (earlier_first t u ts us h)) (λ h. inr (earlier_first u t us ts h)) way))
      (ordered t s p.0 q.0 u p.3 q.3)

pub order_is_strict : OrderIsStrict
order_is_strict = record { irreflexive = λ t. never_before_itself (code t); transitive = λ t u v. before_trans (code t) (code u) (code v) }

pub order_is_total : OrderIsTotal
order_is_total s c t u p q =
    ⊎_elim inl (λ way. inr (⊎_elim (λ h. inl (precedes_before t u h)) (λ h. inr (precedes_before u t h)) way)) (ordered t s c c u p q)

pub codes_tell_trees_apart : CodesTellTreesApart
codes_tell_trees_apart s c t u p q same =
    ⊎_elim (λ e. e) (λ way. absurd (⊎_elim
    (λ h. never_before_itself (code u) (subst (λ k. Before k (code u)) same (precedes_before t u h)))
    (λ h. never_before_itself (code t) (subst (λ k. Before k (code t)) (sym same) (precedes_before u t h)))
    way))
    (ordered t s c c u p q)
