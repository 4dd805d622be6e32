-- Measures: what a tree comes to in a language, its words told by their numbers alone.
use Rattle.std.specs.Prelude.{◌≡◌, ℕ, ◌+◌, List, [], ◌∷◌, map, length, Some, None, Ok, Err, Option, Result, slice_index, slice_index_or}
use Rattle.grammar.specs.Languages.{Meaning, Words}
use Rattle.grammar.specs.Linearization.{Said, linearized, said_form}
use Rattle.grammar.specs.Trees.{Tree, Trees, code}
use Rattle.grammar.specs.Trees.Trees.{none, more}
use Rattle.saying.specs.Mute.{FirstMute}
use Rattle.saying.specs.Sizes.{spelled_bytes}
use Rattle.measure.specs.declared.kinds.Size.{Size}
use Rattle.measure.specs.declared.kinds.Measure.{Measure}
use Rattle.measure.specs.declared.kinds.Muteness.{Muteness}
use Rattle.measure.specs.declared.kinds.NodeMeasure.{NodeMeasure}

-- how many words a string has, and how many bytes these have, blanks left out
abbrev pub size_of : Words → Size
size_of ws = record { words = length ws; bytes = spelled_bytes ws }

-- the size of constituent k; of one that is not there, that of no words
abbrev pub constituent_size : Said → ℕ → Size
constituent_size s k = size_of (slice_index_or s.constituents k [])

abbrev pub measure_of : Said → Measure
measure_of s = record {
  form = s.form;
  sizes = constituent_size s 0 ∷ constituent_size s 1 ∷ constituent_size s 2 ∷ constituent_size s 3 ∷ [];
}

-- three numbers, one for each argument that a function can have; 0 for one that is not there
abbrev pub padded : List ℕ → List ℕ
padded ns = slice_index ns 0 ∷ slice_index ns 1 ∷ slice_index ns 2 ∷ []

-- the places of trees side by side whose codes stand from place j on
abbrev pub row_places : ℕ → Trees → List ℕ
row_places j none = []
row_places j (more t ts) = j ∷ row_places (j + length (code t)) ts

-- the forms of what is said of some arguments, if each of them has a linearization
abbrev pub forms_said : Option (List Said) → List ℕ
forms_said None = []
forms_said (Some all) = map said_form all

-- what is told of the tree whose code begins at place j: its measure, where it has a linearization, or its first mute node
abbrev pub SaidAt : Meaning → ℕ → Tree → Result Measure Muteness → Type 0
SaidAt m j t (Ok measure) = (s : Said) × (linearized m t ≡ Some s) × (measure ≡ measure_of s)
SaidAt m j t (Err muteness) = (i : ℕ) × FirstMute m t i × (muteness.node ≡ j + i)

-- what stands at a place that holds no node: no measure
abbrev pub unmeasured : NodeMeasure
unmeasured = record { end = 0; places = 0 ∷ 0 ∷ 0 ∷ []; forms = 0 ∷ 0 ∷ 0 ∷ []; said = Err (record { node = 0 }) }
