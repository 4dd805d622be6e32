-- The item of a node: it is what the function makes of the items of the arguments, and that is one item at most.
use Rattle.std.proofs.Common.{◌≡◌, ℕ, List, [], ◌∷◌, map, Some, None, Option, sym, refl, ap, ◌∙◌, subst}
use Rattle.std.specs.List.{slice_get}
use Rattle.grammar.specs.declared.symbol.Window.{Window}
use Rattle.grammar.specs.Charts.{AreWindows, Item, ItemOf, item_category, item_form}
use Rattle.grammar.specs.Languages.{Meaning, Rule, Words}
use Rattle.grammar.specs.Linearization.{Said, apply_rule, by_rule, linearized_all, said_form, said_more, said_node}
use Rattle.grammar.specs.Signatures.{Function, Signature}
use Rattle.grammar.specs.Trees.{HasCategory, HaveCategories, Tree, Trees}
use Rattle.grammar.specs.Trees.Tree.{node}
use Rattle.grammar.specs.Trees.Trees.{none, more}
use Rattle.items.proofs.Windows.{window, window_is, window_is_unique}
use Rattle.saying.proofs.Muteness.{node_parts}
use Rattle.congruence.specs.Laws.{ItemFollowsFromArgumentItems, OneItemForOneFunctionAndArguments}
use Rattle.congruence.specs.NodeItems.{AllItemOf, AreWindowsOf, IsWindowOf, NodeItem, sequence_string}
use Rattle.congruence.proofs.Strings.{ShowAll, sequence_windows}

-- a tree has one category
category_is_unique : (s : Signature) (c k : ℕ) (t : Tree) → HasCategory s c t → HasCategory s k t → c ≡ k
category_is_unique s c k (node f ts) p q =
    let same : p.0 ≡ q.0 = cc (p.1, q.1) in
    sym p.2 ∙ ap (λ g. g.result) same ∙ q.2

-- trees with items have the categories of these, and no others
items_have_categories : (m : Meaning) (phrase : Words) (ts : Trees) (items : List Item) → AllItemOf m phrase ts items → HaveCategories m.signature (map item_category items) ts
items_have_categories m phrase none [] all = refl
items_have_categories m phrase none (i ∷ is) all = absurd all
items_have_categories m phrase (more t ts) [] all = absurd all
items_have_categories m phrase (more t ts) (i ∷ is) all =
    (i.category, map item_category is, refl, all.0.category, items_have_categories m phrase ts is all.1)

pub items_of_categories : (m : Meaning) (phrase : Words) (ts : Trees) (items : List Item) (cs : List ℕ) → AllItemOf m phrase ts items → HaveCategories m.signature cs ts → map item_category items ≡ cs
items_of_categories m phrase none [] cs all have = sym have
items_of_categories m phrase none (i ∷ is) cs all have = absurd all
items_of_categories m phrase (more t ts) [] cs all have = absurd all
items_of_categories m phrase (more t ts) (i ∷ is) cs all have =
    let first = category_is_unique m.signature i.category have.0 t all.0.category have.3 in
    let rest = items_of_categories m phrase ts is have.1 all.1 have.4 in
    (λ x. first x ∷ rest x) ∙ sym have.2

-- trees with items are said, and the items show what is said
all_said : (m : Meaning) (phrase : Words) (ts : Trees) (items : List Item) → AllItemOf m phrase ts items → (all : List Said) × (linearized_all m ts ≡ Some all) × ShowAll phrase all items
all_said m phrase none [] all = ([], refl, tt)
all_said m phrase none (i ∷ is) all = absurd all
all_said m phrase (more t ts) [] all = absurd all
all_said m phrase (more t ts) (i ∷ is) all =
    let first = all.0 in
    let rest = all_said m phrase ts is all.1 in (
      first.said ∷ rest.0,
      ap (λ o. said_more o (linearized_all m ts)) first.linearizes ∙ ap (said_more (Some first.said)) rest.1,
      ((first.form, first.windows), rest.2),
    )

shown_forms : (phrase : Words) (all : List Said) (items : List Item) → ShowAll phrase all items → map said_form all ≡ map item_form items
shown_forms phrase [] [] p = refl
shown_forms phrase [] (i ∷ is) p = absurd p
shown_forms phrase (s ∷ ss) [] p = absurd p
shown_forms phrase (s ∷ ss) (i ∷ is) p = λ x. p.0.0 x ∷ shown_forms phrase ss is p.1 x

-- the item of a node is what the function makes of the items
pub node_made : (m : Meaning) (phrase : Words) (f : ℕ) (ts : Trees) (items : List Item) (i : Item) → AllItemOf m phrase ts items → ItemOf m phrase (node f ts) i → NodeItem m phrase f items i
node_made m phrase f ts items i all p =
    let parts = node_parts m f ts p.said p.linearizes in
    let row = all_said m phrase ts items all in
    let same : parts.0 ≡ row.0 = cc (parts.2, row.1) in
    let made : p.said ≡ by_rule m row.0 parts.1 = parts.4 ∙ ap (λ ss. by_rule m ss parts.1) same in
    record {
      signed = p.category.0;
      known = p.category.1;
      rule = parts.1;
      ruled = ap (m.rule f) (sym (ap (map said_form) same ∙ shown_forms phrase row.0 items row.2)) ∙ parts.3;
      category = sym p.category.2;
      form = sym p.form ∙ ap said_form made;
      windows = (sequence_windows m phrase row.0 items row.2 parts.1.sequences i.windows).0 (subst (λ s. AreWindows phrase s.constituents i.windows) made p.windows);
    }

-- and what the function makes of items of its arguments' categories is the item of the node
pub made_node : (m : Meaning) (phrase : Words) (f : ℕ) (signed : Function) (ts : Trees) (items : List Item) (i : Item) → slice_get m.signature.functions f ≡ Some signed → map item_category items ≡ signed.arguments → AllItemOf m phrase ts items → NodeItem m phrase f items i → ItemOf m phrase (node f ts) i
made_node m phrase f signed ts items i known categories all p =
    let row = all_said m phrase ts items all in
    let same : p.signed ≡ signed = cc (p.known, known) in
    let ruled : m.rule f (map said_form row.0) ≡ Some p.rule = ap (m.rule f) (shown_forms phrase row.0 items row.2) ∙ p.ruled in
    record {
      said = by_rule m row.0 p.rule;
      linearizes = ap (said_node m f) row.1 ∙ ap (apply_rule m row.0) ruled;
      category = (signed, known, sym (p.category ∙ ap (λ g. g.result) same), subst (λ cs. HaveCategories m.signature cs ts) categories (items_have_categories m phrase ts items all));
      form = sym p.form;
      windows = (sequence_windows m phrase row.0 items row.2 p.rule.sequences i.windows).1 p.windows;
    }

pub item_follows_from_argument_items : ItemFollowsFromArgumentItems
item_follows_from_argument_items m phrase f signed ts items i known categories all =
    (node_made m phrase f ts items i all, made_node m phrase f signed ts items i known categories all)

-- strings that may be outside have one window each
window_of_is_unique : (phrase : Words) (o : Option Words) (w v : Option Window) → IsWindowOf phrase o w → IsWindowOf phrase o v → w ≡ v
window_of_is_unique phrase None w v p q = p ∙ sym q
window_of_is_unique phrase (Some s) w v p q = window_is_unique phrase s w v p q

windows_of_are_unique : (phrase : Words) (os : List (Option Words)) (ws vs : List (Option Window)) → AreWindowsOf phrase os ws → AreWindowsOf phrase os vs → ws ≡ vs
windows_of_are_unique phrase [] [] [] p q = refl
windows_of_are_unique phrase [] [] (v ∷ vs) p q = absurd q
windows_of_are_unique phrase [] (w ∷ ws) vs p q = absurd p
windows_of_are_unique phrase (o ∷ os) [] vs p q = absurd p
windows_of_are_unique phrase (o ∷ os) (w ∷ ws) [] p q = absurd q
windows_of_are_unique phrase (o ∷ os) (w ∷ ws) (v ∷ vs) p q =
    λ x. window_of_is_unique phrase o w v p.0 q.0 x ∷ windows_of_are_unique phrase os ws vs p.1 q.1 x

pub made_is_unique : (m : Meaning) (phrase : Words) (f : ℕ) (items : List Item) (i j : Item) → NodeItem m phrase f items i → NodeItem m phrase f items j → i ≡ j
made_is_unique m phrase f items i j p q =
    let signed : p.signed ≡ q.signed = cc (p.known, q.known) in
    let rule : p.rule ≡ q.rule = cc (p.ruled, q.ruled) in
    let category : i.category ≡ j.category = p.category ∙ ap (λ g. g.result) signed ∙ sym q.category in
    let form : i.form ≡ j.form = p.form ∙ ap (λ r. r.form) rule ∙ sym q.form in
    let windows : i.windows ≡ j.windows = windows_of_are_unique phrase (map (sequence_string m phrase items) q.rule.sequences) i.windows j.windows (subst (λ r. AreWindowsOf phrase (map (sequence_string m phrase items) r.sequences) i.windows) rule p.windows) q.windows in
    λ x. record { category = category x; form = form x; windows = windows x }

-- each string that may be outside has a window
window_of_exists : (phrase : Words) (o : Option Words) → (w : Option Window) × IsWindowOf phrase o w
window_of_exists phrase None = (None, refl)
window_of_exists phrase (Some s) = (window s phrase, window_is s phrase)

windows_of_exist : (phrase : Words) (os : List (Option Words)) → (ws : List (Option Window)) × AreWindowsOf phrase os ws
windows_of_exist phrase [] = ([], tt)
windows_of_exist phrase (o ∷ os) =
    let first = window_of_exists phrase o in
    let rest = windows_of_exist phrase os in
    (first.0 ∷ rest.0, (first.1, rest.1))

pub made_exists : (m : Meaning) (phrase : Words) (f : ℕ) (signed : Function) (items : List Item) (r : Rule) → slice_get m.signature.functions f ≡ Some signed → m.rule f (map item_form items) ≡ Some r → (i : Item) × NodeItem m phrase f items i
made_exists m phrase f signed items r known ruled =
    let ws = windows_of_exist phrase (map (sequence_string m phrase items) r.sequences) in (
      record { category = signed.result; form = r.form; windows = ws.0 },
      record { signed = signed; known = known; rule = r; ruled = ruled; category = refl; form = refl; windows = ws.1 },
    )

-- nodes over trees with the same items
same_items : (m : Meaning) (phrase : Words) (f : ℕ) (ts us : Trees) (items : List Item) (i : Item) → AllItemOf m phrase ts items → AllItemOf m phrase us items → ItemOf m phrase (node f ts) i → ItemOf m phrase (node f us) i
same_items m phrase f ts us items i all other p =
    made_node m phrase f p.category.0 us items i p.category.1 (items_of_categories m phrase ts items p.category.0.arguments all p.category.3) other (node_made m phrase f ts items i all p)

pub one_item_for_one_function_and_arguments : OneItemForOneFunctionAndArguments
one_item_for_one_function_and_arguments m phrase f ts us items all other = (
  λ i. (same_items m phrase f ts us items i all other, same_items m phrase f us ts items i other all),
  λ i j p q. made_is_unique m phrase f items i j (node_made m phrase f ts items i all p) (node_made m phrase f us items j other q),
)
