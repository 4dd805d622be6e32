-- The items that a table holds, each at its place.
use Rattle.std.specs.Prelude.{◌≡◌, ℕ, ◌⊎◌, List, [], ◌∷◌, ◌++◌, length, Some, None, Option}
use Rattle.std.specs.List.{slice_get}
use Rattle.tables.specs.Held.{held as all_held}
use Rattle.grammar.specs.Lists.{Holds}
use Rattle.chart.specs.declared.item.Item.{Item}
use Rattle.chart.specs.declared.table.ItemTable.{ItemTable}

-- the items in use, by their places
abbrev pub held : ItemTable → List Item
held t = all_held t.items

-- how many places a chart has for items
abbrev pub item_places : ℕ
item_places = 512

-- a place of the value in the list, or that it is not there
abbrev pub FoundAt : {A : Type 0} → List A → A → Option ℕ → Type 0
FoundAt xs x (Some p) = slice_get xs p ≡ Some x
FoundAt xs x None = Holds xs x → ⊥

-- the item has a place: the one that it had, or the next one, where it had none; no place where all are used
abbrev pub PlacedAt : List Item → Item → Option ℕ → List Item → Type 0
PlacedAt before item (Some p) after =
    (slice_get after p ≡ Some item) × ((after ≡ before) ⊎ ((Holds before item → ⊥) × (after ≡ before ++ item ∷ [])))
PlacedAt before item None after = (Holds before item → ⊥) × (length before ≡ item_places) × (after ≡ before)
