-- The item of a node by the items of its arguments: each window is that of what the arguments' windows stand for.
use Rattle.std.specs.Prelude.{◌≡◌, ℕ, List, [], ◌∷◌, ◌++◌, map, get_or, take, drop, Some, None, Option, slice_index_or}
use Rattle.std.specs.List.{slice_get}
use Rattle.grammar.specs.declared.symbol.Symbol.{Symbol}
use Rattle.grammar.specs.declared.symbol.Symbol.TheVariants.{Word, Reference}
use Rattle.grammar.specs.declared.symbol.Window.{Window}
use Rattle.grammar.specs.Charts.{IsWindow, Item, ItemOf, item_form}
use Rattle.grammar.specs.Languages.{Meaning, Rule, Words}
use Rattle.grammar.specs.Signatures.{Function}
use Rattle.grammar.specs.Trees.{Trees}
use Rattle.grammar.specs.Trees.Trees.{none, more}

-- the string that a window stands for: that part of the phrase; outside, there is none
abbrev pub window_string : Words → Option Window → Option Words
window_string phrase None = None
window_string phrase (Some w) = Some (take w.length (drop w.start phrase))

-- the window of the empty string
abbrev pub empty_window : Option Window
empty_window = Some (record { start = 0; length = 0 })

abbrev pub nothing_shown : Item
nothing_shown = record { category = 0; form = 0; windows = [] }

-- a word is that one word, a reference what the argument's window stands for; one that names nothing is empty, and the law rules it out
abbrev pub symbol_string : Meaning → Words → List Item → Symbol → Option Words
symbol_string m phrase items (Word n) = Some (slice_index_or m.words n [] ∷ [])
symbol_string m phrase items (Reference a k) = window_string phrase (slice_index_or (get_or items a nothing_shown).windows k empty_window)

-- two strings put together; one that is outside stays outside in whatever it is put into
abbrev pub put_together : Option Words → Option Words → Option Words
put_together None t = None
put_together (Some s) None = None
put_together (Some s) (Some t) = Some (s ++ t)

abbrev pub sequence_string : Meaning → Words → List Item → List Symbol → Option Words
sequence_string m phrase items [] = Some []
sequence_string m phrase items (x ∷ xs) = put_together (symbol_string m phrase items x) (sequence_string m phrase items xs)

-- the window of a string that may be outside already
abbrev pub IsWindowOf : Words → Option Words → Option Window → Type 0
IsWindowOf phrase None w = w ≡ None
IsWindowOf phrase (Some s) w = IsWindow phrase s w

abbrev pub AreWindowsOf : Words → List (Option Words) → List (Option Window) → Type 0
AreWindowsOf phrase [] [] = Unit {0}
AreWindowsOf phrase [] (w ∷ ws) = ⊥
AreWindowsOf phrase (s ∷ ss) [] = ⊥
AreWindowsOf phrase (s ∷ ss) (w ∷ ws) = IsWindowOf phrase s w × AreWindowsOf phrase ss ws

-- the item that function f makes of the items of its arguments: by the rule for their forms, where there is one
pub record NodeItem (m : Meaning) (phrase : Words) (f : ℕ) (items : List Item) (i : Item) : Type 0 where
  pub signed : Function
  pub known : slice_get m.signature.functions f ≡ Some signed
  pub rule : Rule
  pub ruled : m.rule f (map item_form items) ≡ Some rule
  pub category : i.category ≡ signed.result
  pub form : i.form ≡ rule.form
  pub windows : AreWindowsOf phrase (map (sequence_string m phrase items) rule.sequences) i.windows

-- the items of trees side by side, one for each
abbrev pub AllItemOf : Meaning → Words → Trees → List Item → Type 0
AllItemOf m phrase none [] = Unit {0}
AllItemOf m phrase none (i ∷ is) = ⊥
AllItemOf m phrase (more t ts) [] = ⊥
AllItemOf m phrase (more t ts) (i ∷ is) = ItemOf m phrase t i × AllItemOf m phrase ts is
