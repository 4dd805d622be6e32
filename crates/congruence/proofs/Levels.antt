-- Levels: the items of each depth follow from the edges over the items of the depth before.
use Rattle.std.proofs.Common.{◌≡◌, ℕ, zero, suc, ◌-◌, ◌≤◌, List, [], ◌∷◌, Some, refl, arith}
use Rattle.std.specs.List.{AllByRecursion}
use Rattle.std.proofs.ByRecursion.{All-weaker}
use Rattle.grammar.specs.Charts.{Edge, Edges, Item, ItemOf, Items}
use Rattle.grammar.specs.Languages.{Meaning, Words}
use Rattle.grammar.specs.Linearization.{Said, linearized_all}
use Rattle.grammar.specs.Trees.{HaveCategories, Tree, Trees, deepest, depth}
use Rattle.grammar.specs.Trees.Tree.{node}
use Rattle.grammar.specs.Trees.Trees.{none, more}
use Rattle.items.proofs.Windows.{windows, windows_are}
use Rattle.saying.proofs.Muteness.{node_parts, more_parts}
use Rattle.congruence.specs.Laws.{ALevelWithoutNewItemsIsTheLast, EachEdgeHasOneResult, ItemsGrowByEdges, ItemsOnlyGrow}
use Rattle.congruence.specs.NodeItems.{AllItemOf, NodeItem}
use Rattle.congruence.proofs.Nodes.{items_of_categories, made_exists, made_is_unique, made_node, node_made}

module _ (m : Meaning) (phrase : Words) where
  -- trees of the signature that are said have items
  items_exist : (ts : Trees) (cs : List ℕ) (all : List Said) → HaveCategories m.signature cs ts → linearized_all m ts ≡ Some all → (items : List Item) × AllItemOf m phrase ts items
  items_exist none cs all have e = ([], tt)
  items_exist (more t ts) cs all have e =
      let parts = more_parts m t ts all e in
      let s = parts.0 in
      let rest = items_exist ts have.1 parts.1 have.4 parts.3 in (
        record { category = have.0; form = s.form; windows = windows phrase s.constituents } ∷ rest.0,
        (record { said = s; linearizes = parts.2; category = have.3; form = refl; windows = windows_are phrase s.constituents }, rest.1),
      )

  -- the items of trees within a depth, and trees within the depth for items of it
  items_within : (ts : Trees) (d : ℕ) (items : List Item) → deepest ts ≤ d → AllItemOf m phrase ts items → AllByRecursion (Items m phrase d) items
  items_within none d [] le all = tt
  items_within none d (i ∷ is) le all = absurd all
  items_within (more t ts) d [] le all = absurd all
  items_within (more t ts) d (i ∷ is) le all = ((t, omega arith, all.0), items_within ts d is (omega arith) all.1)

  trees_within : (d : ℕ) (items : List Item) → AllByRecursion (Items m phrase d) items → (ts : Trees) × (deepest ts ≤ d) × AllItemOf m phrase ts items
  trees_within d [] all = (none, omega arith, tt)
  trees_within d (i ∷ is) all =
      let first = all.0 in
      let rest = trees_within d is all.1 in
      (more first.0 rest.0, omega (arith, first.1, rest.1), (first.2, rest.2))

  -- an edge over the items of a tree's arguments makes the tree's item
  tree_edge : (d : ℕ) (i : Item) (t : Tree) → depth t ≤ d → ItemOf m phrase t i → (e : Edge) × Edges m phrase d e × NodeItem m phrase e.function e.arguments i
  tree_edge d i (node f ts) le p =
      let parts = node_parts m f ts p.said p.linearizes in
      let cs = p.category.0.arguments in
      let row = items_exist ts cs parts.0 p.category.3 parts.2 in
      let made = node_made m phrase f ts row.0 i row.1 p in (
        record { function = f; arguments = row.0 },
        record {
          signed = p.category.0;
          known = p.category.1;
          categories = items_of_categories m phrase ts row.0 cs row.1 p.category.3;
          items = items_within ts (d - 1) row.0 (omega arith) row.1;
          rule = made.rule;
          ruled = made.ruled;
        },
        made,
      )

  edge_tree : (d : ℕ) (i : Item) (e : Edge) → 1 ≤ d → Edges m phrase d e → NodeItem m phrase e.function e.arguments i → Items m phrase d i
  edge_tree d i e le p made =
      let row = trees_within (d - 1) e.arguments p.items in
      (node e.function row.0, omega (arith, row.1), made_node m phrase e.function p.signed row.0 e.arguments i p.known p.categories row.2 made)

  -- a greater depth has the items of a smaller one
  items_deeper : (d k : ℕ) → d ≤ k → (i : Item) → Items m phrase d i → Items m phrase k i
  items_deeper d k le i p = (p.0, omega (arith, p.1), p.2)

  no_items : (i : Item) → Items m phrase 0 i → ⊥
  no_items i p = deep p.0 p.1
    where
      deep : (t : Tree) → depth t ≤ 0 → ⊥
      deep (node f ts) le = omega arith

  -- an edge at depth d is one at depth k where the items below the one are among those below the other
  edges_over : (d a b k : ℕ) → d - 1 ≤ a → b ≤ k - 1 → ((i : Item) → Items m phrase a i → Items m phrase b i) → (e : Edge) → Edges m phrase d e → Edges m phrase k e
  edges_over d a b k up on among e p = record {
    signed = p.signed;
    known = p.known;
    categories = p.categories;
    items = All-weaker (Items m phrase (d - 1)) (Items m phrase (k - 1)) (λ i h. items_deeper b (k - 1) on i (among i (items_deeper (d - 1) a up i h))) e.arguments p.items;
    rule = p.rule;
    ruled = p.ruled;
  }

  edges_above : (d k : ℕ) → ((i : Item) → Items m phrase d i → Items m phrase k i) → (e : Edge) → Edges m phrase (suc d) e → Edges m phrase (suc k) e
  edges_above d k among = edges_over (suc d) d k (suc k) (omega arith) (omega arith) among

  -- without new items at one depth more, every depth has the same items at most
  nothing_new : (d : ℕ) → ((i : Item) → Items m phrase (suc d) i → Items m phrase d i) → (k : ℕ) (i : Item) → Items m phrase k i → Items m phrase d i
  nothing_new d still zero i p = absurd (no_items i p)
  nothing_new d still (suc k) i p =
      let q = tree_edge (suc k) i p.0 p.1 p.2 in
      still i (edge_tree (suc d) i q.0 (omega arith) (edges_above k d (nothing_new d still k) q.0 q.1) q.2)

pub items_grow_by_edges : ItemsGrowByEdges
items_grow_by_edges m phrase d i = (λ p. tree_edge m phrase (suc d) i p.0 p.1 p.2, λ q. edge_tree m phrase (suc d) i q.0 (omega arith) q.1 q.2)

pub items_only_grow : ItemsOnlyGrow
items_only_grow m phrase = record {
  items_kept = λ d. items_deeper m phrase d (suc d) (omega arith);
  edges_kept = λ d. edges_over m phrase d (d - 1) (d - 1) (suc d) (omega arith) (omega arith) (λ i p. p);
  none_at_first = no_items m phrase;
}

pub a_level_without_new_items_is_the_last : ALevelWithoutNewItemsIsTheLast
a_level_without_new_items_is_the_last m phrase d k still le = (
  λ i. (nothing_new m phrase d still k i, items_deeper m phrase d k le i),
  λ e. (edges_above m phrase k d (nothing_new m phrase d still k) e, edges_above m phrase d k (items_deeper m phrase d k le) e),
)

pub each_edge_has_one_result : EachEdgeHasOneResult
each_edge_has_one_result m phrase d e p =
    let made = made_exists m phrase e.function p.signed e.arguments p.rule p.known p.ruled in
    (made.0, made.1, λ j q. made_is_unique m phrase e.function e.arguments made.0 j made.1 q)
