-- Edges: all edges over the items of a depth, each once; and the counts of a chart.
use Rattle.std.proofs.Common.{◌≡◌, ℕ, zero, suc, ◌+◌, ◌-◌, Bool, true, eqb, List, [], ◌∷◌, ◌++◌, map, length, is_some, Some, filter, sym, refl, ap, ◌∙◌, subst, inl, inr, ⊎_elim, arith}
use Rattle.std.specs.List.{slice_get, flat_map, AllByRecursion}
use Rattle.std.proofs.lemmas.Bool.{eqb-true, eq-eqb}
use Rattle.grammar.proofs.Optional.{some_value}
use Rattle.grammar.specs.Charts.{Item, Items, Edge, Edges, Counts, item_category, item_form}
use Rattle.grammar.specs.Languages.{Meaning, Words}
use Rattle.grammar.specs.Lists.{Holds, Distinct, Counted}
use Rattle.grammar.specs.Signatures.{Function}
use Rattle.readings.proofs.Membership.{Pairwise, holds_left, holds_right, holds_cases, holds_map, map_holds, holds_joined, joined_holds, holds_kept, kept_holds, pairwise_append, pairwise_map, pairwise_kept, holds_all, all_holds}
use Rattle.items.specs.Laws.{CountsExist, CountsAreUnique}
use Rattle.items.proofs.Distinctness.{Apart, pairwise_distinct, count_is_unique}
use Rattle.items.proofs.Items.{all_items, all_items_distinct, all_items_exactly, items_counted}

-- all rows of items of the categories, out of a list of items
abbrev pub of_category : List Item → ℕ → List Item
of_category known c = filter (λ i. eqb i.category c) known

abbrev pub item_rows : List Item → List ℕ → List (List Item)
item_rows known [] = [] ∷ []
item_rows known (c ∷ cs) = flat_map (λ i. map (λ is. i ∷ is) (item_rows known cs)) (of_category known c)

abbrev pub edge : ℕ → List Item → Edge
edge f is = record { function = f; arguments = is }

abbrev pub has_rule : Meaning → Edge → Bool
has_rule m e = is_some (m.rule e.function (map item_form e.arguments))

-- the edges of one function, where a rule exists
abbrev pub edges_under : Meaning → List Item → ℕ → Function → List Edge
edges_under m known n f = filter (has_rule m) (map (edge n) (item_rows known f.arguments))

-- the edges of the functions, numbered from n on
abbrev pub edges_from : Meaning → List Item → ℕ → List Function → List Edge
edges_from m known n [] = []
edges_from m known n (f ∷ fs) = edges_under m known n f ++ edges_from m known (suc n) fs

abbrev pub all_edges : Meaning → Words → ℕ → List Edge
all_edges m phrase d = edges_from m (all_items m phrase (d - 1)) 0 m.signature.functions

distinct_pairwise : {A : Type 0} (xs : List A) → Distinct xs → Pairwise Apart xs
distinct_pairwise [] d = tt
distinct_pairwise (x ∷ xs) d = (holds_all (Apart x) xs (λ y h e. d.0 (subst (Holds xs) (sym e) h)), distinct_pairwise xs d.1)

module _ (known : List Item) where
  -- a row of known items of the categories
  abbrev Row : List ℕ → List Item → Type 0
  Row cs is = (map item_category is ≡ cs) × AllByRecursion (Holds known) is

  rows_row : (cs : List ℕ) (is : List Item) → Holds (item_rows known cs) is → Row cs is
  rows_row [] is (inl e) = subst (Row []) (sym e) (refl, tt)
  rows_row [] is (inr h) = absurd h
  rows_row (c ∷ cs) is h =
      let p = joined_holds (λ i. map (λ js. i ∷ js) (item_rows known cs)) (of_category known c) is h in
      let q = map_holds (λ js. p.0 ∷ js) (item_rows known cs) is p.2 in
      let r = kept_holds (λ i. eqb i.category c) known p.0 p.1 in
      let rest = rows_row cs q.0 q.1 in
      subst (Row (c ∷ cs)) (sym q.2) (λ x. eqb-true p.0.category c r.1 x ∷ rest.0 x, (r.0, rest.1))

  row_rows : (is : List Item) (cs : List ℕ) → Row cs is → Holds (item_rows known cs) is
  row_rows [] cs r = subst (λ ks. Holds (item_rows known ks) []) r.0 (inl refl)
  row_rows (i ∷ is) cs r =
      subst (λ ks. Holds (item_rows known ks) (i ∷ is)) r.0
      (holds_joined (λ j. map (λ js. j ∷ js) (item_rows known (map item_category is))) (of_category known i.category) i (i ∷ is)
      (holds_kept (λ j. eqb j.category i.category) known i r.1.0 (eq-eqb i.category i.category refl))
      (holds_map (λ js. i ∷ js) (item_rows known (map item_category is)) is (row_rows is (map item_category is) (refl, r.1.1))))

  -- rows are apart where items are
  beside_apart : (rows : List (List Item)) → Pairwise Apart rows → (is : List Item) → Pairwise Apart is → Pairwise Apart (flat_map (λ i. map (λ js. i ∷ js) rows) is)
  beside_apart rows apart [] p = tt
  beside_apart rows apart (i ∷ is) p =
      pairwise_append Apart (map (λ js. i ∷ js) rows) (flat_map (λ k. map (λ js. k ∷ js) rows) is)
      (pairwise_map Apart Apart (λ js. i ∷ js) (λ x y no_path e. no_path (let h : x ≡ y = cc (e) in h)) rows apart)
      (beside_apart rows apart is p.1)
      (λ x y hx hy e.
      let a = map_holds (λ js. i ∷ js) rows x hx in
      let b = joined_holds (λ k. map (λ js. k ∷ js) rows) is y hy in
      let c = map_holds (λ js. b.0 ∷ js) rows y b.2 in
      let whole : i ∷ a.0 ≡ b.0 ∷ c.0 = sym a.2 ∙ e ∙ c.2 in
      all_holds (Apart i) is p.0 b.0 b.1 (let h : i ≡ b.0 = cc (whole) in h))

  rows_apart : Pairwise Apart known → (cs : List ℕ) → Pairwise Apart (item_rows known cs)
  rows_apart p [] = (tt, tt)
  rows_apart p (c ∷ cs) =
      beside_apart (item_rows known cs) (rows_apart p cs) (of_category known c) (pairwise_kept Apart (λ i. eqb i.category c) known p)

module _ (m : Meaning) (known : List Item) where
  -- an edge of function n
  abbrev Under : ℕ → Function → Edge → Type 0
  Under n f e = (e.function ≡ n) × Row known f.arguments e.arguments × (has_rule m e ≡ true)

  under_holds : (n : ℕ) (f : Function) (e : Edge) → Holds (edges_under m known n f) e → Under n f e
  under_holds n f e h =
      let p = kept_holds (has_rule m) (map (edge n) (item_rows known f.arguments)) e h in
      let q = map_holds (edge n) (item_rows known f.arguments) e p.0 in
      (ap (λ x. x.function) q.2, subst (Row known f.arguments) (sym (ap (λ x. x.arguments) q.2)) (rows_row known f.arguments q.0 q.1), p.1)

  holds_under : (n : ℕ) (f : Function) (e : Edge) → Under n f e → Holds (edges_under m known n f) e
  holds_under n f e u =
      let same : edge n e.arguments ≡ e = λ i. record { function = sym u.0 i; arguments = e.arguments } in
      holds_kept (has_rule m) (map (edge n) (item_rows known f.arguments)) e
      (subst (Holds (map (edge n) (item_rows known f.arguments))) same (holds_map (edge n) (item_rows known f.arguments) e.arguments (row_rows known e.arguments f.arguments u.1)))
      u.2

  from_holds : (fs : List Function) (n : ℕ) (e : Edge) → Holds (edges_from m known n fs) e → (k : ℕ) × (f : Function) × (slice_get fs k ≡ Some f) × Under (n + k) f e
  from_holds [] n e h = absurd h
  from_holds (f ∷ fs) n e h =
      ⊎_elim
      (λ k. let at : n ≡ n + 0 = omega arith in (0, f, refl, subst (λ j. Under j f e) at (under_holds n f e k)))
      (λ k. let p = from_holds fs (suc n) e k in let at : suc n + p.0 ≡ n + suc p.0 = omega arith in (suc p.0, p.1, p.2, subst (λ j. Under j p.1 e) at p.3))
      (holds_cases (edges_under m known n f) (edges_from m known (suc n) fs) e h)

  holds_from : (fs : List Function) (n k : ℕ) (f : Function) (e : Edge) → slice_get fs k ≡ Some f → Under (n + k) f e → Holds (edges_from m known n fs) e
  holds_from [] n k f e p u = let z : ◌≡◌ {A = ℕ} 0 1 = cc (p) in absurd (omega arith)
  holds_from (g ∷ fs) n zero f e p u =
      let same : f ≡ g = cc (p) in
      let at : n + 0 ≡ n = omega arith in
      holds_left (edges_under m known n g) (edges_from m known (suc n) fs) e (holds_under n g e (subst (λ h. Under n h e) same (subst (λ j. Under j f e) at u)))
  holds_from (g ∷ fs) n (suc k) f e p u =
      let at : n + suc k ≡ suc n + k = omega arith in
      holds_right (edges_under m known n g) (edges_from m known (suc n) fs) e (holds_from fs (suc n) k f e p (subst (λ j. Under j f e) at u))

  from_apart : Pairwise Apart known → (fs : List Function) (n : ℕ) → Pairwise Apart (edges_from m known n fs)
  from_apart p [] n = tt
  from_apart p (f ∷ fs) n =
      pairwise_append Apart (edges_under m known n f) (edges_from m known (suc n) fs)
      (pairwise_kept Apart (has_rule m) (map (edge n) (item_rows known f.arguments)) (pairwise_map Apart Apart (edge n) (λ x y no_path e. no_path (ap (λ z. z.arguments) e)) (item_rows known f.arguments) (rows_apart known p f.arguments)))
      (from_apart p fs (suc n))
      (λ x y hx hy e.
      let a = under_holds n f x hx in
      let b = from_holds fs (suc n) y hy in
      omega (arith, a.0, b.3.0, ap (λ z. z.function) e))

module _ (m : Meaning) (phrase : Words) (d : ℕ) where
  edge_sound : (e : Edge) → Holds (all_edges m phrase d) e → Edges m phrase d e
  edge_sound e h =
      let p = from_holds m (all_items m phrase (d - 1)) m.signature.functions 0 e h in
      let u = p.3 in
      let at : p.0 ≡ e.function = omega (arith, u.0) in
      let r = some_value (m.rule e.function (map item_form e.arguments)) u.2 in
      record {
        signed = p.1;
        known = subst (λ k. slice_get m.signature.functions k ≡ Some p.1) at p.2;
        categories = u.1.0;
        items = holds_all (Items m phrase (d - 1)) e.arguments (λ i k. (all_items_exactly m phrase (d - 1) i).0 (all_holds (Holds (all_items m phrase (d - 1))) e.arguments u.1.1 i k));
        rule = r.0;
        ruled = r.1;
      }

  edge_complete : (e : Edge) → Edges m phrase d e → Holds (all_edges m phrase d) e
  edge_complete e p =
      let at : e.function ≡ 0 + e.function = omega arith in
      holds_from m (all_items m phrase (d - 1)) m.signature.functions 0 e.function p.signed e p.known
      (at, (p.categories, holds_all (Holds (all_items m phrase (d - 1))) e.arguments (λ i k. (all_items_exactly m phrase (d - 1) i).1 (all_holds (Items m phrase (d - 1)) e.arguments p.items i k))), ap is_some p.ruled)

  pub edges_counted : Counted (Edges m phrase d) (length (all_edges m phrase d))
  edges_counted = record {
    values = all_edges m phrase d;
    distinct = pairwise_distinct (all_edges m phrase d) (from_apart m (all_items m phrase (d - 1)) (distinct_pairwise (all_items m phrase (d - 1)) (all_items_distinct m phrase (d - 1))) m.signature.functions 0);
    exactly = λ e. (edge_sound e, edge_complete e);
    count = refl;
  }

  pub all_counted : Counts m phrase d (length (all_items m phrase d)) (length (all_edges m phrase d))
  all_counted = record { item_count = items_counted m phrase d; edge_count = edges_counted }

pub counts_exist : CountsExist
counts_exist m phrase d = (length (all_items m phrase d), length (all_edges m phrase d), all_counted m phrase d)

pub counts_are_unique : CountsAreUnique
counts_are_unique m phrase d n k n' k' p q =
    (count_is_unique (Items m phrase d) n n' p.item_count q.item_count, count_is_unique (Edges m phrase d) k k' p.edge_count q.edge_count)
