-- What a rule's sequence asks for, and the windows of three arguments.
use Rattle.std.specs.Prelude.{ℕ, ◌<◌, List, [], ◌∷◌, length, Option, slice_index_or}
use Rattle.grammar.specs.declared.symbol.Symbol.{Symbol}
use Rattle.grammar.specs.declared.symbol.Symbol.TheVariants.{Word, Reference}
use Rattle.grammar.specs.declared.symbol.Window.{Window}
use Rattle.grammar.specs.Charts.{Item}
use Rattle.grammar.specs.Languages.{Meaning}
use Rattle.congruence.specs.NodeItems.{empty_window, nothing_shown}

-- a symbol that names a word of the language, or one of three arguments and one of four constituents
abbrev pub Named : Meaning → Symbol → Type 0
Named m (Word n) = n < length m.words
Named m (Reference a k) = (a < 3) × (k < 4)

abbrev pub window_of : Item → ℕ → Option Window
window_of i k = slice_index_or i.windows k empty_window

-- the windows of four constituents; one that is not there is empty
abbrev pub item_windows : Item → List (Option Window)
item_windows i = window_of i 0 ∷ window_of i 1 ∷ window_of i 2 ∷ window_of i 3 ∷ []

-- those of three arguments; one that is not there has empty windows
abbrev pub argument_windows : List Item → List (List (Option Window))
argument_windows items =
    item_windows (slice_index_or items 0 nothing_shown) ∷ item_windows (slice_index_or items 1 nothing_shown) ∷ item_windows (slice_index_or items 2 nothing_shown) ∷ []
