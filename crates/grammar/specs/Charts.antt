-- Windows, items and edges: what a phrase makes of all trees of a language up to a depth.
use Rattle.std.specs.Prelude.{◌≡◌, ℕ, ◌-◌, ◌≤◌, List, [], ◌∷◌, ◌++◌, map, length, Some, None, Option}
use Rattle.std.specs.List.{slice_get, AllByRecursion}
use Rattle.grammar.specs.declared.symbol.Window.{Window}
use Rattle.grammar.specs.Languages.{Meaning, Rule, Words}
use Rattle.grammar.specs.Linearization.{Said, linearized}
use Rattle.grammar.specs.Lists.{Counted}
use Rattle.grammar.specs.Signatures.{Function}
use Rattle.grammar.specs.Trees.{Tree, depth, HasCategory}

-- the string stands in the phrase from place i on
abbrev pub Occurs : Words → Words → ℕ → Type 0
Occurs phrase string i = (front : Words) × (back : Words) × (phrase ≡ front ++ (string ++ back)) × (length front ≡ i)

-- the window of a string is the start and the length of its leftmost occurrence; a string that does not occur is outside
abbrev pub IsWindow : Words → Words → Option Window → Type 0
IsWindow phrase string (Some w) =
    Occurs phrase string w.start × ((j : ℕ) → Occurs phrase string j → w.start ≤ j) × (w.length ≡ length string)
IsWindow phrase string None = (j : ℕ) → Occurs phrase string j → ⊥

abbrev pub AreWindows : Words → List Words → List (Option Window) → Type 0
AreWindows phrase [] [] = Unit {0}
AreWindows phrase [] (w ∷ ws) = ⊥
AreWindows phrase (s ∷ ss) [] = ⊥
AreWindows phrase (s ∷ ss) (w ∷ ws) = IsWindow phrase s w × AreWindows phrase ss ws

-- an item: a category, a form, and a window or outside for each constituent
pub record Item : Type 0 where
  pub category : ℕ
  pub form : ℕ
  pub windows : List (Option Window)

-- the item of a linearizable tree
pub record ItemOf (m : Meaning) (phrase : Words) (t : Tree) (i : Item) : Type 0 where
  pub said : Said
  pub linearizes : linearized m t ≡ Some said
  pub category : HasCategory m.signature i.category t
  pub form : said.form ≡ i.form
  pub windows : AreWindows phrase said.constituents i.windows

-- the items of all linearizable trees of depth at most d
abbrev pub Items : Meaning → Words → ℕ → Item → Type 0
Items m phrase d i = (t : Tree) × (depth t ≤ d) × ItemOf m phrase t i

-- an edge: a function with an item for each argument
pub record Edge : Type 0 where
  pub function : ℕ
  pub arguments : List Item

abbrev pub item_category : Item → ℕ
item_category i = i.category

abbrev pub item_form : Item → ℕ
item_form i = i.form

-- the edges at depth d: each argument is an item of depth at most d - 1, of the right category, and a rule exists for their forms
pub record Edges (m : Meaning) (phrase : Words) (d : ℕ) (e : Edge) : Type 0 where
  pub signed : Function
  pub known : slice_get m.signature.functions e.function ≡ Some signed
  pub categories : map item_category e.arguments ≡ signed.arguments
  pub items : AllByRecursion (Items m phrase (d - 1)) e.arguments
  pub rule : Rule
  pub ruled : m.rule e.function (map item_form e.arguments) ≡ Some rule

-- the two counts of a chart at depth d
pub record Counts (m : Meaning) (phrase : Words) (d items edges : ℕ) : Type 0 where
  pub item_count : Counted (Items m phrase d) items
  pub edge_count : Counted (Edges m phrase d) edges
