-- The laws that a chart stands on, over every language, phrase and depth: the items of a level follow from the edges over the level below.
use Rattle.std.specs.Prelude.{◌≡◌, ℕ, suc, ◌≤◌, ◌↔◌, List, map, Some}
use Rattle.std.specs.List.{slice_get}
use Rattle.grammar.specs.Charts.{Edge, Edges, Item, ItemOf, Items, item_category}
use Rattle.grammar.specs.Languages.{Meaning, Words}
use Rattle.grammar.specs.Signatures.{Function}
use Rattle.grammar.specs.Trees.{Trees}
use Rattle.grammar.specs.Trees.Tree.{node}
use Rattle.congruence.specs.NodeItems.{AllItemOf, NodeItem}

-- the item of a node is what its function makes of the items of its arguments, whatever the trees
abbrev pub ItemFollowsFromArgumentItems : Type 0
ItemFollowsFromArgumentItems =
    (m : Meaning) (phrase : Words) (f : ℕ) (signed : Function) (ts : Trees) (items : List Item) (i : Item) → slice_get m.signature.functions f ≡ Some signed → map item_category items ≡ signed.arguments → AllItemOf m phrase ts items → ItemOf m phrase (node f ts) i ↔ NodeItem m phrase f items i

-- trees with the same items, one for each, make nodes with one and the same item, or with none
abbrev pub OneItemForOneFunctionAndArguments : Type 0
OneItemForOneFunctionAndArguments =
    (m : Meaning) (phrase : Words) (f : ℕ) (ts us : Trees) (items : List Item) → AllItemOf m phrase ts items → AllItemOf m phrase us items → ((i : Item) → ItemOf m phrase (node f ts) i ↔ ItemOf m phrase (node f us) i) × ((i j : Item) → ItemOf m phrase (node f ts) i → ItemOf m phrase (node f us) j → i ≡ j)

-- the items of one depth more are what the edges at that depth make
abbrev pub ItemsGrowByEdges : Type 0
ItemsGrowByEdges =
    (m : Meaning) (phrase : Words) (d : ℕ) (i : Item) → Items m phrase (suc d) i ↔ ((e : Edge) × Edges m phrase (suc d) e × NodeItem m phrase e.function e.arguments i)

-- one depth more keeps every item and every edge; at depth 0 there is no item
pub record Growing (m : Meaning) (phrase : Words) : Type 0 where
  pub items_kept : (d : ℕ) (i : Item) → Items m phrase d i → Items m phrase (suc d) i
  pub edges_kept : (d : ℕ) (e : Edge) → Edges m phrase d e → Edges m phrase (suc d) e
  pub none_at_first : (i : Item) → Items m phrase 0 i → ⊥

abbrev pub ItemsOnlyGrow : Type 0
ItemsOnlyGrow = (m : Meaning) (phrase : Words) → Growing m phrase

-- where one depth more brings no new item, no depth does, and no further depth brings a new edge
abbrev pub ALevelWithoutNewItemsIsTheLast : Type 0
ALevelWithoutNewItemsIsTheLast =
    (m : Meaning) (phrase : Words) (d k : ℕ) → ((i : Item) → Items m phrase (suc d) i → Items m phrase d i) → d ≤ k → ((i : Item) → Items m phrase k i ↔ Items m phrase d i) × ((e : Edge) → Edges m phrase (suc k) e ↔ Edges m phrase (suc d) e)

-- an edge makes an item, and no other
abbrev pub EachEdgeHasOneResult : Type 0
EachEdgeHasOneResult =
    (m : Meaning) (phrase : Words) (d : ℕ) (e : Edge) → Edges m phrase d e → (i : Item) × NodeItem m phrase e.function e.arguments i × ((j : Item) → NodeItem m phrase e.function e.arguments j → i ≡ j)
