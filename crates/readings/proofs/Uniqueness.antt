-- A full list is the only one.
use Rattle.std.proofs.Common.{◌≡◌, List, [], ◌∷◌, sym, refl, ◌∙◌, subst, inl, inr, ⊎_elim}
use Rattle.grammar.specs.Lists.{Holds}
use Rattle.grammar.specs.Order.{Ascending, Before}
use Rattle.grammar.specs.Trees.{Tree, code}
use Rattle.readings.specs.Laws.{FullListIsUnique}
use Rattle.readings.proofs.Codes.{never_before_itself, before_trans}
use Rattle.readings.proofs.Membership.{all_holds}

-- what stands after the first tree of an ascending list comes after it
after_first : (t : Tree) (ts : List Tree) (u : Tree) → Ascending (t ∷ ts) → Holds ts u → Before (code t) (code u)
after_first t ts u a h = all_holds (λ v. Before (code t) (code v)) ts a.0 u h

not_after : (t : Tree) (ts : List Tree) (u : Tree) → Ascending (t ∷ ts) → Holds ts u → u ≡ t → ⊥
not_after t ts u a h e = never_before_itself (code t) (subst (λ v. Before (code t) (code v)) e (after_first t ts u a h))

-- two ascending lists of the same trees begin alike
same_first : (t u : Tree) (ts us : List Tree) → Ascending (t ∷ ts) → Ascending (u ∷ us) → Holds (u ∷ us) t → Holds (t ∷ ts) u → t ≡ u
same_first t u ts us a b (inl e) k = e
same_first t u ts us a b (inr h) (inl e) = sym e
same_first t u ts us a b (inr h) (inr k) =
    absurd (never_before_itself (code t) (before_trans (code t) (code u) (code t) (after_first t ts u a k) (after_first u us t b h)))

-- what both hold, they hold after the first
rest_holds : (t u : Tree) (ts us : List Tree) → Ascending (t ∷ ts) → t ≡ u → ((v : Tree) → Holds (t ∷ ts) v → Holds (u ∷ us) v) → (v : Tree) → Holds ts v → Holds us v
rest_holds t u ts us a same f v h = ⊎_elim (λ e. absurd (not_after t ts v a h (e ∙ sym same))) (λ k. k) (f v (inr h))

pub same_list : (ts us : List Tree) → Ascending ts → Ascending us → ((v : Tree) → Holds ts v → Holds us v) → ((v : Tree) → Holds us v → Holds ts v) → ts ≡ us
same_list [] [] a b f g = refl
same_list [] (u ∷ us) a b f g = absurd (g u (inl refl))
same_list (t ∷ ts) [] a b f g = absurd (f t (inl refl))
same_list (t ∷ ts) (u ∷ us) a b f g =
    let same = same_first t u ts us a b (f t (inl refl)) (g u (inl refl)) in
    let rest = same_list ts us a.1 b.1 (rest_holds t u ts us a same f) (rest_holds u t us ts b (sym same) g) in
    λ i. same i ∷ rest i

pub full_list_is_unique : FullListIsUnique
full_list_is_unique m draft phrase d ts us p q =
    same_list ts us p.ascending q.ascending (λ v h. (q.exactly v).1 ((p.exactly v).0 h)) (λ v h. (p.exactly v).1 ((q.exactly v).0 h))
