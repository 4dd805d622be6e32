-- A tree is said or has one first mute node.
use Rattle.std.proofs.Common.{◌≡◌, ℕ, suc, ◌+◌, ◌<◌, ◌⊎◌, List, [], ◌∷◌, map, length, Some, None, Option, sym, refl, ap, ◌∙◌, subst, inl, inr, ⊎_elim, arith, length-append}
use Rattle.std.proofs.lemmas.Bool.{cases_order}
use Rattle.grammar.proofs.Optional.{none_some}
use Rattle.grammar.specs.Languages.{Meaning, Rule}
use Rattle.grammar.specs.Linearization.{Said, linearized, linearized_all, said_node, said_more, apply_rule, by_rule, said_form}
use Rattle.grammar.specs.Trees.{Tree, Trees, code, codes}
use Rattle.grammar.specs.Trees.Tree.{node}
use Rattle.grammar.specs.Trees.Trees.{none, more}
use Rattle.saying.specs.Laws.{SaidOrMute, SaidIsNotMute, FirstMuteIsUnique}
use Rattle.saying.specs.Mute.{At, AtIn, MuteNode, FirstMute, FirstMuteIn}

-- a place of a subtree lies in the code
mutual
  pub at_within : (t : Tree) (i : ℕ) (u : Tree) → At t i u → i < length (code t)
  at_within (node f ts) i u (inl p) = omega (arith, p.0)
  at_within (node f ts) i u (inr p) = omega (arith, p.1, in_within ts p.0 u p.2)

  pub in_within : (ts : Trees) (i : ℕ) (u : Tree) → AtIn ts i u → i < length (codes ts)
  in_within none i u h = absurd h
  in_within (more t ts) i u (inl h) = omega (arith, at_within t i u h, length-append (code t) (codes ts))
  in_within (more t ts) i u (inr p) = omega (arith, p.1, in_within ts p.0 u p.2, length-append (code t) (codes ts))

-- what a row that is said is made of
more_said : (o : Option Said) (p : Option (List Said)) (all : List Said) → said_more o p ≡ Some all → (s : Said) × (rest : List Said) × (o ≡ Some s) × (p ≡ Some rest) × (all ≡ s ∷ rest)
more_said None p all e = absurd (none_some all e)
more_said (Some s) None all e = absurd (none_some all e)
more_said (Some s) (Some rest) all e = (s, rest, refl, refl, let same : all ≡ s ∷ rest = cc in same)

-- what a node that is said is made of
node_said : (m : Meaning) (f : ℕ) (o : Option (List Said)) (s : Said) → said_node m f o ≡ Some s → (arguments : List Said) × (r : Rule) × (o ≡ Some arguments) × (m.rule f (map said_form arguments) ≡ Some r) × (s ≡ by_rule m arguments r)
node_said m f None s e = absurd (none_some s e)
node_said m f (Some arguments) s e = by (m.rule f (map said_form arguments)) refl e
  where
    by : (o : Option Rule) → m.rule f (map said_form arguments) ≡ o → apply_rule m arguments o ≡ Some s → (all : List Said) × (r : Rule) × (Some arguments ≡ Some all) × (m.rule f (map said_form all) ≡ Some r) × (s ≡ by_rule m all r)
    by None k h = absurd (none_some s h)
    by (Some r) k h = (arguments, r, refl, k, let same : s ≡ by_rule m arguments r = cc (h) in same)

pub node_parts : (m : Meaning) (f : ℕ) (ts : Trees) (s : Said) → linearized m (node f ts) ≡ Some s → (arguments : List Said) × (r : Rule) × (linearized_all m ts ≡ Some arguments) × (m.rule f (map said_form arguments) ≡ Some r) × (s ≡ by_rule m arguments r)
node_parts m f ts s e = node_said m f (linearized_all m ts) s e

pub more_parts : (m : Meaning) (t : Tree) (ts : Trees) (all : List Said) → linearized_all m (more t ts) ≡ Some all → (s : Said) × (rest : List Said) × (linearized m t ≡ Some s) × (linearized_all m ts ≡ Some rest) × (all ≡ s ∷ rest)
more_parts m t ts all e = more_said (linearized m t) (linearized_all m ts) all e

-- a tree that is said has no mute node
mutual
  none_mute : (t : Tree) (m : Meaning) (s : Said) (i : ℕ) (u : Tree) → linearized m t ≡ Some s → At t i u → MuteNode m u → ⊥
  none_mute (node f ts) m s i u e (inl p) q =
      let parts = node_parts m f ts s e in
      let here = subst (MuteNode m) p.1 q in
      let same : here.0 ≡ parts.0 = cc (here.1, parts.2) in
      none_some parts.1 (sym here.2 ∙ ap (λ all. m.rule f (map said_form all)) same ∙ parts.3)
  none_mute (node f ts) m s i u e (inr p) q = let parts = node_parts m f ts s e in none_mute_in ts m parts.0 p.0 u parts.2 p.2 q

  none_mute_in : (ts : Trees) (m : Meaning) (all : List Said) (i : ℕ) (u : Tree) → linearized_all m ts ≡ Some all → AtIn ts i u → MuteNode m u → ⊥
  none_mute_in none m all i u e h q = h
  none_mute_in (more t ts) m all i u e (inl h) q = let parts = more_parts m t ts all e in none_mute t m parts.0 i u parts.2 h q
  none_mute_in (more t ts) m all i u e (inr p) q = let parts = more_parts m t ts all e in none_mute_in ts m parts.1 p.0 u parts.3 p.2 q

-- the first mute node of a row of trees: of its first tree, or further on
pub in_front : (m : Meaning) (t : Tree) (ts : Trees) (i : ℕ) → FirstMute m t i → FirstMuteIn m (more t ts) i
in_front m t ts i p = record {
  subtree = p.subtree;
  there = inl p.there;
  mute = p.mute;
  none_before = λ j u lt at q. ⊎_elim (λ h. p.none_before j u lt h q) (λ h. let inside = at_within t i p.subtree p.there in let past = h.1 in absurd (omega (arith, inside, past))) at;
}

pub further_on : (m : Meaning) (t : Tree) (ts : Trees) (s : Said) (i : ℕ) → linearized m t ≡ Some s → FirstMuteIn m ts i → FirstMuteIn m (more t ts) (length (code t) + i)
further_on m t ts s i said p = record {
  subtree = p.subtree;
  there = inr (i, refl, p.there);
  mute = p.mute;
  none_before = λ j u lt at q. ⊎_elim (λ h. none_mute t m s j u said h q) (λ h. let past = h.1 in p.none_before h.0 u (omega (arith, past)) h.2 q) at;
}

pub row_not_said : (m : Meaning) (ts : Trees) (i : ℕ) → FirstMuteIn m ts i → (all : List Said) → linearized_all m ts ≡ Some all → ⊥
row_not_said m ts i p all e = none_mute_in ts m all i p.subtree e p.there p.mute

-- a node over a row that has a mute node, or over one that is said
pub below : (m : Meaning) (f : ℕ) (ts : Trees) (i : ℕ) → FirstMuteIn m ts i → FirstMute m (node f ts) (suc i)
below m f ts i p = record {
  subtree = p.subtree;
  there = inr (i, refl, p.there);
  mute = p.mute;
  none_before = λ j u lt at q. ⊎_elim
      (λ h. let here = subst (MuteNode m) h.1 q in none_mute_in ts m here.0 i p.subtree here.1 p.there p.mute)
      (λ h. let past = h.1 in p.none_before h.0 u (omega (arith, past)) h.2 q)
      at;
}

pub at_root : (m : Meaning) (f : ℕ) (ts : Trees) (all : List Said) → linearized_all m ts ≡ Some all → m.rule f (map said_form all) ≡ None → FirstMute m (node f ts) 0
at_root m f ts all e r = record { subtree = node f ts; there = inl (refl, refl); mute = (all, e, r); none_before = λ j u lt at q. absurd (omega arith) }

root_or_said : (m : Meaning) (f : ℕ) (ts : Trees) (all : List Said) → linearized_all m ts ≡ Some all → ((s : Said) × (linearized m (node f ts) ≡ Some s)) ⊎ ((i : ℕ) × FirstMute m (node f ts) i)
root_or_said m f ts all e = by (m.rule f (map said_form all)) refl
  where
    by : (o : Option Rule) → m.rule f (map said_form all) ≡ o → ((s : Said) × (linearized m (node f ts) ≡ Some s)) ⊎ ((i : ℕ) × FirstMute m (node f ts) i)
    by None k = inr (0, at_root m f ts all e k)
    by (Some r) k = inl (by_rule m all r, ap (said_node m f) e ∙ ap (apply_rule m all) k)

mutual
  said_or_mute_tree : (t : Tree) (m : Meaning) → ((s : Said) × (linearized m t ≡ Some s)) ⊎ ((i : ℕ) × FirstMute m t i)
  said_or_mute_tree (node f ts) m =
      ⊎_elim
      (λ p. root_or_said m f ts p.0 p.1)
      (λ p. inr (suc p.0, below m f ts p.0 p.1))
      (all_or_mute ts m)

  all_or_mute : (ts : Trees) (m : Meaning) → ((all : List Said) × (linearized_all m ts ≡ Some all)) ⊎ ((i : ℕ) × FirstMuteIn m ts i)
  all_or_mute none m = inl ([], refl)
  all_or_mute (more t ts) m =
      ⊎_elim
      (λ p. ⊎_elim
      (λ q. inl (p.0 ∷ q.0, ap (λ o. said_more o (linearized_all m ts)) p.1 ∙ ap (said_more (Some p.0)) q.1))
      (λ q. inr (length (code t) + q.0, further_on m t ts p.0 q.0 p.1 q.1))
      (all_or_mute ts m))
      (λ p. inr (p.0, in_front m t ts p.0 p.1))
      (said_or_mute_tree t m)

pub said_or_mute : SaidOrMute
said_or_mute m t = said_or_mute_tree t m

pub said_is_not_mute : SaidIsNotMute
said_is_not_mute m t s i e p = none_mute t m s i p.subtree e p.there p.mute

pub first_mute_is_unique : FirstMuteIsUnique
first_mute_is_unique m t i j p q =
    ⊎_elim (λ e. e) (λ way. absurd (⊎_elim
    (λ lt. q.none_before i p.subtree lt p.there p.mute)
    (λ lt. p.none_before j q.subtree lt q.there q.mute)
    way)) (cases_order i j)
