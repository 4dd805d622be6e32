-- All trees of a category within a depth, in tree order, and the readings among them.
use Rattle.std.proofs.Common.{◌≡◌, ℕ, zero, suc, ◌+◌, ◌≤◌, Bool, true, false, cond, ◌&&◌, eqb, List, [], ◌∷◌, ◌++◌, map, Some, None, Decides, filter, Option, sym, refl, ap, ◌∙◌, subst, inl, ⊎_elim, arith}
use Rattle.std.specs.List.{slice_get, flat_map}
use Rattle.std.specs.Str.{bytes_eq}
use Rattle.std.proofs.lemmas.Slice.Eq.{bytes_eq-Decides}
use Rattle.std.proofs.lemmas.Bool.{eqb-true, eq-eqb, false≢true}
use Rattle.std.proofs.lemmas.Bool.Decides.{Decides-and, Decides-eqb, Decides-like}
use Rattle.grammar.specs.Drafts.{Draft, Drafts, Completes, CompleteAll}
use Rattle.grammar.specs.Drafts.Draft.{hole, built}
use Rattle.grammar.specs.Drafts.Drafts.{nil, cons}
use Rattle.grammar.specs.Languages.{Meaning, Words}
use Rattle.grammar.specs.Linearization.{Said, linearized, Linearizes, main_constituent}
use Rattle.grammar.specs.Lists.{Holds}
use Rattle.grammar.specs.Order.{Ascending, Before}
use Rattle.grammar.specs.Readings.{FullList}
use Rattle.grammar.specs.Signatures.{Signature, Function}
use Rattle.grammar.specs.Trees.{Tree, Trees, code, depth, deepest, HasCategory, HaveCategories}
use Rattle.grammar.specs.Trees.Tree.{node}
use Rattle.grammar.specs.Trees.Trees.{none, more}
use Rattle.readings.specs.Laws.{FullListExists}
use Rattle.readings.proofs.Codes.{Precedes, PrecedeAll, precedes_before, lower_root, same_root, earlier_first, same_first}
use Rattle.readings.proofs.Membership.{Pairwise, holds_left, holds_right, holds_cases, holds_map, map_holds, holds_joined, joined_holds, holds_kept, kept_holds, pairwise_append, pairwise_map, pairwise_kept, pairwise_weaker, all_holds}

-- all ways to put a tree beside trees
abbrev pub beside : List Trees → Tree → List Trees
beside rows t = map (more t) rows

-- all rows of trees of the categories, from what each category offers
abbrev pub rows : (ℕ → List Tree) → List ℕ → List Trees
rows offer [] = none ∷ []
rows offer (c ∷ cs) = flat_map (beside (rows offer cs)) (offer c)

-- all trees of category c whose root is one of the functions, numbered from n on
abbrev pub rooted : (ℕ → List Tree) → ℕ → ℕ → List Function → List Tree
rooted offer c n [] = []
rooted offer c n (f ∷ fs) = cond (eqb f.result c) (map (node n) (rows offer f.arguments)) [] ++ rooted offer c (suc n) fs

-- all trees of category c, at most d deep
abbrev pub trees : Signature → ℕ → ℕ → List Tree
trees s zero c = []
trees s (suc d) c = rooted (trees s d) c 0 s.functions

-- a row of trees that are on offer
abbrev OnOffer : (ℕ → List Tree) → List ℕ → Trees → Type 0
OnOffer offer cs none = cs ≡ []
OnOffer offer cs (more t ts) = (c : ℕ) × (rest : List ℕ) × (cs ≡ c ∷ rest) × Holds (offer c) t × OnOffer offer rest ts

module _ (offer : ℕ → List Tree) where
  offer_rows : (ts : Trees) (cs : List ℕ) → OnOffer offer cs ts → Holds (rows offer cs) ts
  offer_rows none cs p = subst (λ ks. Holds (rows offer ks) none) (sym p) (inl refl)
  offer_rows (more t ts) cs p =
      subst (λ ks. Holds (rows offer ks) (more t ts)) (sym p.2)
      (holds_joined (beside (rows offer p.1)) (offer p.0) t (more t ts) p.3 (holds_map (more t) (rows offer p.1) ts (offer_rows ts p.1 p.4)))

  rows_offer : (cs : List ℕ) (ts : Trees) → Holds (rows offer cs) ts → OnOffer offer cs ts
  rows_offer [] ts h = ⊎_elim (λ e. subst (OnOffer offer []) (sym e) refl) (λ none. absurd none) h
  rows_offer (c ∷ cs) ts h =
      let p = joined_holds (beside (rows offer cs)) (offer c) ts h in
      let q = map_holds (more p.0) (rows offer cs) ts p.2 in
      subst (OnOffer offer (c ∷ cs)) (sym q.2) (c, cs, refl, p.1, rows_offer cs q.0 q.1)

  -- a tree of category c whose root is one of the functions, numbered from n on, over a row on offer
  abbrev Rooted : ℕ → ℕ → List Function → Tree → Type 0
  Rooted c n fs t =
      (k : ℕ) × (f : Function) × (ts : Trees) × (t ≡ node (n + k) ts) × (slice_get fs k ≡ Some f) × (f.result ≡ c) × OnOffer offer f.arguments ts

  -- the trees with root n, if its result is c
  abbrev under : ℕ → ℕ → Function → List Tree
  under c n f = cond (eqb f.result c) (map (node n) (rows offer f.arguments)) []

  under_holds : (c n : ℕ) (f : Function) (t : Tree) → Holds (under c n f) t → (ts : Trees) × (t ≡ node n ts) × (f.result ≡ c) × OnOffer offer f.arguments ts
  under_holds c n f t h = by (eqb f.result c) refl h
    where
      by : (b : Bool) → eqb f.result c ≡ b → Holds (cond b (map (node n) (rows offer f.arguments)) []) t → (ts : Trees) × (t ≡ node n ts) × (f.result ≡ c) × OnOffer offer f.arguments ts
      by true e k = let p = map_holds (node n) (rows offer f.arguments) t k in (p.0, p.2, eqb-true _ _ e, rows_offer f.arguments p.0 p.1)
      by false e k = absurd k

  holds_under : (c n : ℕ) (f : Function) (ts : Trees) → f.result ≡ c → OnOffer offer f.arguments ts → Holds (under c n f) (node n ts)
  holds_under c n f ts e p = rw (eq-eqb f.result c e) (holds_map (node n) (rows offer f.arguments) ts (offer_rows ts f.arguments p))

  rooted_holds : (fs : List Function) (c n : ℕ) (t : Tree) → Holds (rooted offer c n fs) t → Rooted c n fs t
  rooted_holds [] c n t h = absurd h
  rooted_holds (f ∷ fs) c n t h =
      ⊎_elim
      (λ k. let p = under_holds c n f t k in (0, f, p.0, p.1 ∙ ap (λ j. node j p.0) (let e : n ≡ n + 0 = omega arith in e), refl, p.2, p.3))
      (λ k.
      let p = rooted_holds fs c (suc n) t k in
      (suc p.0, p.1, p.2, p.3 ∙ ap (λ j. node j p.2) (let e : suc n + p.0 ≡ n + suc p.0 = omega arith in e), p.4, p.5, p.6))
      (holds_cases (under c n f) (rooted offer c (suc n) fs) t h)

  holds_rooted : (fs : List Function) (c n k : ℕ) (f : Function) (ts : Trees) → slice_get fs k ≡ Some f → f.result ≡ c → OnOffer offer f.arguments ts → Holds (rooted offer c n fs) (node (n + k) ts)
  holds_rooted [] c n k f ts e r p = let z : ◌≡◌ {A = ℕ} 0 1 = cc in absurd (omega arith)
  holds_rooted (g ∷ fs) c n zero f ts e r p =
      let same : g ≡ f = cc in
      let at : n ≡ n + 0 = omega arith in
      holds_left (under c n g) (rooted offer c (suc n) fs) _ (subst (λ j. Holds (under c n g) (node j ts)) at (holds_under c n g ts (ap (λ h. h.result) same ∙ r) (subst (λ h. OnOffer offer h.arguments ts) (sym same) p)))
  holds_rooted (g ∷ fs) c n (suc k) f ts e r p =
      let at : suc n + k ≡ n + suc k = omega arith in
      holds_right (under c n g) (rooted offer c (suc n) fs) _ (subst (λ j. Holds (rooted offer c (suc n) fs) (node j ts)) at (holds_rooted fs c (suc n) k f ts e r p))

  -- a row on offer is one of trees of the right categories and within the depth, where each offer is
  offer_sound : (s : Signature) (d : ℕ) → ((c : ℕ) (t : Tree) → Holds (offer c) t → HasCategory s c t × (depth t ≤ d)) → (ts : Trees) (cs : List ℕ) → OnOffer offer cs ts → HaveCategories s cs ts × (deepest ts ≤ d)
  offer_sound s d sound none cs p = (p, omega arith)
  offer_sound s d sound (more t ts) cs p =
      let first = sound p.0 t p.3 in
      let rest = offer_sound s d sound ts p.1 p.4 in
      ((p.0, p.1, p.2, first.0, rest.0), omega (arith, first.1, rest.1))

  offer_complete : (s : Signature) (d : ℕ) → ((c : ℕ) (t : Tree) → HasCategory s c t → depth t ≤ d → Holds (offer c) t) → (ts : Trees) (cs : List ℕ) → HaveCategories s cs ts → deepest ts ≤ d → OnOffer offer cs ts
  offer_complete s d complete none cs p h = p
  offer_complete s d complete (more t ts) cs p h =
      (p.0, p.1, p.2, complete p.0 t p.3 (omega arith), offer_complete s d complete ts p.1 p.4 (omega arith))

  -- rows rise where offers do
  beside_rise : (rs : List Trees) → Pairwise PrecedeAll rs → (ts : List Tree) → Pairwise Precedes ts → Pairwise PrecedeAll (flat_map (beside rs) ts)
  beside_rise rs rise [] p = tt
  beside_rise rs rise (t ∷ ts) p =
      pairwise_append PrecedeAll (beside rs t) (flat_map (beside rs) ts)
      (pairwise_map PrecedeAll PrecedeAll (more t) (same_first t) rs rise)
      (beside_rise rs rise ts p.1)
      (λ x y hx hy.
      let a = map_holds (more t) rs x hx in
      let b = joined_holds (beside rs) ts y hy in
      let c = map_holds (more b.0) rs y b.2 in
      subst (λ z. PrecedeAll z y) (sym a.2) (subst (PrecedeAll (more t a.0)) (sym c.2) (earlier_first t b.0 a.0 c.0 (all_holds (Precedes t) ts p.0 b.0 b.1))))

  rows_rise : ((c : ℕ) → Pairwise Precedes (offer c)) → (cs : List ℕ) → Pairwise PrecedeAll (rows offer cs)
  rows_rise rise [] = (tt, tt)
  rows_rise rise (c ∷ cs) = beside_rise (rows offer cs) (rows_rise rise cs) (offer c) (rise c)

  under_rise : ((c : ℕ) → Pairwise Precedes (offer c)) → (c n : ℕ) (f : Function) → Pairwise Precedes (under c n f)
  under_rise rise c n f = by (eqb f.result c)
    where
      by : (b : Bool) → Pairwise Precedes (cond b (map (node n) (rows offer f.arguments)) [])
      by true = pairwise_map PrecedeAll Precedes (node n) (same_root n) (rows offer f.arguments) (rows_rise rise f.arguments)
      by false = tt

  rooted_rise : ((c : ℕ) → Pairwise Precedes (offer c)) → (fs : List Function) (c n : ℕ) → Pairwise Precedes (rooted offer c n fs)
  rooted_rise rise [] c n = tt
  rooted_rise rise (f ∷ fs) c n =
      pairwise_append Precedes (under c n f) (rooted offer c (suc n) fs)
      (under_rise rise c n f)
      (rooted_rise rise fs c (suc n))
      (λ x y hx hy.
      let a = under_holds c n f x hx in
      let b = rooted_holds fs c (suc n) y hy in
      subst (λ z. Precedes z y) (sym a.1) (subst (Precedes (node n a.0)) (sym b.3) (lower_root n (suc n + b.0) a.0 b.2 (omega arith))))

module _ (s : Signature) where
  pub trees_sound : (d c : ℕ) (t : Tree) → Holds (trees s d c) t → HasCategory s c t × (depth t ≤ d)
  trees_sound zero c t h = absurd h
  trees_sound (suc d) c t h =
      let p = rooted_holds (trees s d) s.functions c 0 t h in
      let q = offer_sound (trees s d) s d (trees_sound d) p.2 p.1.arguments p.6 in
      let at : 0 + p.0 ≡ p.0 = omega arith in
      subst (λ u. HasCategory s c u × (depth u ≤ suc d)) (sym (p.3 ∙ ap (λ j. node j p.2) at)) ((p.1, p.4, p.5, q.0), omega (arith, q.1))

  pub trees_complete : (d c : ℕ) (t : Tree) → HasCategory s c t → depth t ≤ d → Holds (trees s d c) t
  trees_complete zero c (node f ts) p h = absurd (omega arith)
  trees_complete (suc d) c (node f ts) p h =
      let at : 0 + f ≡ f = omega arith in
      subst (λ j. Holds (trees s (suc d) c) (node j ts)) at
      (holds_rooted (trees s d) s.functions c 0 f p.0 ts p.1 p.2 (offer_complete (trees s d) s d (trees_complete d) ts p.0.arguments p.3 (omega arith)))

  pub trees_rise : (d c : ℕ) → Pairwise Precedes (trees s d c)
  trees_rise zero c = tt
  trees_rise (suc d) c = rooted_rise (trees s d) (trees_rise d) s.functions c 0

-- whether the tree completes the draft
abbrev mutual
  completing : Draft → Tree → Bool
  completing hole t = true
  completing (built f ds) (node g ts) = eqb f g && all_completing ds ts

  all_completing : Drafts → Trees → Bool
  all_completing nil none = true
  all_completing nil (more t ts) = false
  all_completing (cons d ds) none = false
  all_completing (cons d ds) (more t ts) = completing d t && all_completing ds ts

mutual
  completing_decides : (d : Draft) (t : Tree) → Decides (completing d t) (Completes d t)
  completing_decides hole t = (λ e. tt, λ h. refl)
  completing_decides (built f ds) (node g ts) = Decides-and (eqb f g) (all_completing ds ts) (Decides-eqb f g) (all_completing_decides ds ts)

  all_completing_decides : (ds : Drafts) (ts : Trees) → Decides (all_completing ds ts) (CompleteAll ds ts)
  all_completing_decides nil none = (λ e. tt, λ h. refl)
  all_completing_decides nil (more t ts) = (λ e. absurd (false≢true e), λ h. absurd h)
  all_completing_decides (cons d ds) none = (λ e. absurd (false≢true e), λ h. absurd h)
  all_completing_decides (cons d ds) (more t ts) = Decides-and (completing d t) (all_completing ds ts) (completing_decides d t) (all_completing_decides ds ts)

-- whether two strings of words are equal
abbrev same_words : Words → Words → Bool
same_words [] [] = true
same_words [] (v ∷ vs) = false
same_words (w ∷ ws) [] = false
same_words (w ∷ ws) (v ∷ vs) = bytes_eq w v && same_words ws vs

same_words_decides : (ws vs : Words) → Decides (same_words ws vs) (ws ≡ vs)
same_words_decides [] [] = (λ e. refl, λ h. refl)
same_words_decides [] (v ∷ vs) = (λ e. absurd (false≢true e), λ h. let z : ◌≡◌ {A = ℕ} 0 1 = cc in absurd (omega arith))
same_words_decides (w ∷ ws) [] = (λ e. absurd (false≢true e), λ h. let z : ◌≡◌ {A = ℕ} 0 1 = cc in absurd (omega arith))
same_words_decides (w ∷ ws) (v ∷ vs) =
    Decides-like (bytes_eq w v && same_words ws vs) (λ p i. p.0 i ∷ p.1 i) (λ e. (let h : w ≡ v = cc in h, let h : ws ≡ vs = cc in h))
    (Decides-and (bytes_eq w v) (same_words ws vs) (bytes_eq-Decides w v) (same_words_decides ws vs))

-- whether what is said is the phrase
abbrev saying : Option Said → Words → Bool
saying None phrase = false
saying (Some s) phrase = same_words (main_constituent s) phrase

saying_decides : (o : Option Said) (phrase : Words) → Decides (saying o phrase) ((s : Said) × (o ≡ Some s) × (main_constituent s ≡ phrase))
saying_decides None phrase = (λ e. absurd (false≢true e), λ h. let e = h.1 in let z : ◌≡◌ {A = ℕ} 0 1 = cc in absurd (omega arith))
saying_decides (Some s) phrase =
    Decides-like (same_words (main_constituent s) phrase) (λ e. (s, refl, e)) (λ h. let e = h.1 in let same : s ≡ h.0 = cc in ap main_constituent same ∙ h.2)
    (same_words_decides (main_constituent s) phrase)

-- whether a tree of the start category within the depth is a reading
abbrev pub is_reading : Meaning → Draft → Words → Tree → Bool
is_reading m draft phrase t = completing draft t && saying (linearized m t) phrase

-- the readings, found by looking at all trees
abbrev pub all_readings : Meaning → Draft → Words → ℕ → List Tree
all_readings m draft phrase d = filter (is_reading m draft phrase) (trees m.signature d m.signature.start)

ascending : (ts : List Tree) → Pairwise (λ t u. Before (code t) (code u)) ts → Ascending ts
ascending [] p = tt
ascending (t ∷ ts) p = (p.0, ascending ts p.1)

pub all_readings_full : (m : Meaning) (draft : Draft) (phrase : Words) (d : ℕ) → FullList m draft phrase d (all_readings m draft phrase d)
all_readings_full m draft phrase d =
    let s = m.signature in
    let test : Tree → Bool = is_reading m draft phrase in
    let decides : (t : Tree) → Decides (test t) (Completes draft t × Linearizes m t phrase) = λ t. Decides-and (completing draft t) (saying (linearized m t) phrase) (completing_decides draft t) (saying_decides (linearized m t) phrase) in
    record {
      ascending = ascending (filter test (trees s d s.start)) (pairwise_weaker Precedes (λ t u. Before (code t) (code u)) precedes_before (filter test (trees s d s.start)) (pairwise_kept Precedes test (trees s d s.start) (trees_rise s d s.start)));
      exactly = λ t. (
        λ h.
            let p = kept_holds test (trees s d s.start) t h in
            let q = trees_sound s d s.start t p.0 in
            let r = (decides t).0 p.1 in
            record { start = q.0; completes = r.0; within = q.1; linearizes = r.1 },
        λ r. holds_kept test (trees s d s.start) t (trees_complete s d s.start t r.start r.within) ((decides t).1 (r.completes, r.linearizes)),
      );
    }

pub full_list_exists : FullListExists
full_list_exists m draft phrase d = (all_readings m draft phrase d, all_readings_full m draft phrase d)
