-- Items: all items of a language's trees within a depth, each once.
use Rattle.std.proofs.Common.{◌≡◌, ℕ, Bool, ◌&&◌, eqb, ◌↔◌, List, map, length, Some, None, Decides, Option, sym, refl, ap, ◌∙◌, subst, inl, inr, arith}
use Rattle.std.specs.List.{flat_map}
use Rattle.std.specs.Option.{option_to_list}
use Rattle.std.proofs.lemmas.Bool.Decides.{Decides-and, Decides-eqb, Decides-like}
use Rattle.grammar.specs.Charts.{Item, ItemOf, Items}
use Rattle.grammar.specs.Languages.{Meaning, Words}
use Rattle.grammar.specs.Linearization.{Said, linearized}
use Rattle.grammar.specs.Lists.{Holds, Distinct, Counted}
use Rattle.grammar.specs.Questions.{function_result}
use Rattle.grammar.specs.Trees.{Tree, HasCategory}
use Rattle.grammar.specs.Trees.Tree.{node}
use Rattle.grammar.proofs.Nth.{nth_holds}
use Rattle.grammar.proofs.Sameness.{same_windows, windows_decide}
use Rattle.readings.proofs.Enumeration.{trees, trees_sound, trees_complete}
use Rattle.readings.proofs.Membership.{holds_map, holds_joined, joined_holds}
use Rattle.items.proofs.Distinctness.{each_once, each_once_distinct, once_holds, holds_once}
use Rattle.items.proofs.Windows.{windows, windows_are, windows_are_unique}

-- the item of what is said of a tree of category c
abbrev pub item_said : Words → ℕ → Option Said → Option Item
item_said phrase c None = None
item_said phrase c (Some s) = Some (record { category = c; form = s.form; windows = windows phrase s.constituents })

abbrev pub item : Meaning → Words → ℕ → Tree → Option Item
item m phrase c t = item_said phrase c (linearized m t)

same_fields : (a b : Item) → a.category ≡ b.category → a.form ≡ b.form → a.windows ≡ b.windows → a ≡ b
same_fields a b p q r = λ i. record { category = p i; form = q i; windows = r i }

item_is : (m : Meaning) (phrase : Words) (t : Tree) (i : Item) → ItemOf m phrase t i → item m phrase i.category t ≡ Some i
item_is m phrase t i p =
    ap (item_said phrase i.category) p.linearizes
    ∙ ap Some (same_fields _ i refl p.form (windows_are_unique phrase p.said.constituents _ _ (windows_are phrase p.said.constituents) p.windows))

is_item : (m : Meaning) (phrase : Words) (c : ℕ) (t : Tree) (i : Item) → HasCategory m.signature c t → item m phrase c t ≡ Some i → ItemOf m phrase t i
is_item m phrase c t i p e = by (linearized m t) refl e
  where
    by : (o : Option Said) → linearized m t ≡ o → item_said phrase c o ≡ Some i → ItemOf m phrase t i
    by None l k = let z : ◌≡◌ {A = ℕ} 0 1 = cc (k) in absurd (omega arith)
    by (Some s) l k =
        let same : record { category = c; form = s.form; windows = windows phrase s.constituents } ≡ i = cc (k) in
        subst (ItemOf m phrase t) same (record { said = s; linearizes = l; category = p; form = refl; windows = windows_are phrase s.constituents })

-- the items of category c, some perhaps several times
abbrev pub items_of : Meaning → Words → ℕ → ℕ → List Item
items_of m phrase d c = flat_map (λ t. option_to_list (item m phrase c t)) (trees m.signature d c)

-- the categories that some function makes
abbrev pub made : Meaning → List ℕ
made m = map function_result m.signature.functions

abbrev pub found_items : Meaning → Words → ℕ → List Item
found_items m phrase d = flat_map (items_of m phrase d) (made m)

listed_is : (o : Option Item) (i : Item) → Holds (option_to_list o) i → o ≡ Some i
listed_is None i h = absurd h
listed_is (Some j) i (inl e) = ap Some (sym e)
listed_is (Some j) i (inr h) = absurd h

is_listed : (o : Option Item) (i : Item) → o ≡ Some i → Holds (option_to_list o) i
is_listed o i e = subst (λ p. Holds (option_to_list p) i) (sym e) (inl refl)

category_made : (m : Meaning) (c : ℕ) (t : Tree) → HasCategory m.signature c t → Holds (made m) c
category_made m c (node f ts) p =
    subst (Holds (made m)) p.2 (holds_map function_result m.signature.functions p.0 (nth_holds m.signature.functions f p.0 p.1))

found_sound : (m : Meaning) (phrase : Words) (d : ℕ) (i : Item) → Holds (found_items m phrase d) i → Items m phrase d i
found_sound m phrase d i h =
    let p = joined_holds (items_of m phrase d) (made m) i h in
    let q = joined_holds (λ t. option_to_list (item m phrase p.0 t)) (trees m.signature d p.0) i p.2 in
    let r = trees_sound m.signature d p.0 q.0 q.1 in
    (q.0, r.1, is_item m phrase p.0 q.0 i r.0 (listed_is (item m phrase p.0 q.0) i q.2))

found_complete : (m : Meaning) (phrase : Words) (d : ℕ) (i : Item) → Items m phrase d i → Holds (found_items m phrase d) i
found_complete m phrase d i (p) =
    let c = i.category in
    let o = p.2 in
    holds_joined (items_of m phrase d) (made m) c i (category_made m c p.0 o.category)
    (holds_joined (λ t. option_to_list (item m phrase c t)) (trees m.signature d c) p.0 i (trees_complete m.signature d c p.0 o.category p.1) (is_listed (item m phrase c p.0) i (item_is m phrase p.0 i o)))

-- whether two items are equal
abbrev pub same_item : Item → Item → Bool
same_item a b = eqb a.category b.category && (eqb a.form b.form && same_windows a.windows b.windows)

pub item_decides : (a b : Item) → Decides (same_item a b) (a ≡ b)
item_decides a b =
    Decides-like (same_item a b) (λ p. same_fields a b p.0 p.1.0 p.1.1) (λ e. (ap (λ i. i.category) e, (ap (λ i. i.form) e, ap (λ i. i.windows) e)))
    (Decides-and (eqb a.category b.category) _ (Decides-eqb a.category b.category) (Decides-and (eqb a.form b.form) (same_windows a.windows b.windows) (Decides-eqb a.form b.form) (windows_decide a.windows b.windows)))

-- all items, each once
abbrev pub all_items : Meaning → Words → ℕ → List Item
all_items m phrase d = each_once same_item (found_items m phrase d)

pub all_items_distinct : (m : Meaning) (phrase : Words) (d : ℕ) → Distinct (all_items m phrase d)
all_items_distinct m phrase d = each_once_distinct same_item item_decides (found_items m phrase d)

pub all_items_exactly : (m : Meaning) (phrase : Words) (d : ℕ) (i : Item) → Holds (all_items m phrase d) i ↔ Items m phrase d i
all_items_exactly m phrase d i =
    (λ h. found_sound m phrase d i (once_holds same_item item_decides (found_items m phrase d) i h), λ h. holds_once same_item item_decides (found_items m phrase d) i (found_complete m phrase d i h))

pub items_counted : (m : Meaning) (phrase : Words) (d : ℕ) → Counted (Items m phrase d) (length (all_items m phrase d))
items_counted m phrase d = record { values = all_items m phrase d; distinct = all_items_distinct m phrase d; exactly = all_items_exactly m phrase d; count = refl }
