-- The laws of windows and of a chart's counts, over every language, phrase and depth.
use Rattle.std.specs.Prelude.{◌≡◌, ℕ, Option}
use Rattle.grammar.specs.declared.symbol.Window.{Window}
use Rattle.grammar.specs.Charts.{IsWindow, Counts}
use Rattle.grammar.specs.Languages.{Meaning, Words}

abbrev pub WindowExists : Type 0
WindowExists = (phrase string : Words) → (w : Option Window) × IsWindow phrase string w

abbrev pub WindowIsUnique : Type 0
WindowIsUnique = (phrase string : Words) (w v : Option Window) → IsWindow phrase string w → IsWindow phrase string v → w ≡ v

abbrev pub CountsExist : Type 0
CountsExist = (m : Meaning) (phrase : Words) (d : ℕ) → (items : ℕ) × (edges : ℕ) × Counts m phrase d items edges

abbrev pub CountsAreUnique : Type 0
CountsAreUnique =
    (m : Meaning) (phrase : Words) (d items edges items' edges' : ℕ) → Counts m phrase d items edges → Counts m phrase d items' edges' → (items ≡ items') × (edges ≡ edges')
