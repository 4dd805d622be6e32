-- What a frame is at: the symbols of its sequence, and the sizes of the arguments that they name.
use Rattle.std.specs.Prelude.{ℕ, List, [], get_or, Some, None, Ok, Err, Option, Result, slice_index_or}
use Rattle.std.specs.List.{slice_get}
use Rattle.grammar.specs.declared.symbol.Symbol.{Symbol}
use Rattle.grammar.specs.Languages.{Meaning, Spelling}
use Rattle.grammar.specs.Questions.{sequence_answer}
use Rattle.measure.specs.declared.kinds.Measure.{Measure}
use Rattle.measure.specs.declared.kinds.Muteness.{Muteness}
use Rattle.measure.specs.declared.kinds.Size.{Size}
use Rattle.measure.specs.declared.table.MeasureTable.{MeasureTable}
use Rattle.measure.specs.Measured.{measured_at}
use Rattle.measure.specs.Sums.{or_no_symbols}
use Rattle.tree.specs.declared.code.TreeCode.{TreeCode}
use Rattle.tree.specs.Read.{bytes_of}
use Rattle.linearizer.specs.declared.frame.Frame.{Frame}

-- the word of a number
abbrev pub spelling : Meaning → ℕ → Spelling
spelling m n = slice_index_or m.words n []

-- the sequence for constituent k, of the rule for a function and its arguments' forms
abbrev pub sequence_of : Meaning → Option ℕ → List ℕ → ℕ → List Symbol
sequence_of m None forms k = []
sequence_of m (Some f) forms k = or_no_symbols (sequence_answer m f forms k)

-- the symbols of a frame: by the function of its node, and the forms that the node's arguments have in the table
abbrev pub frame_symbols : Meaning → TreeCode → MeasureTable → Frame → List Symbol
frame_symbols m tree table frame =
    sequence_of m (slice_get (bytes_of tree) frame.place) (measured_at table frame.place).forms frame.constituent

-- a frame at the start of a constituent
abbrev pub starting : ℕ → ℕ → Frame
starting place k = record { place = place; constituent = k; next = 0 }

abbrev pub no_size : Size
no_size = record { words = 0; bytes = 0 }

-- how many words constituent k has, by a measure; none where there is no measure
abbrev pub word_count : Result Measure Muteness → ℕ → ℕ
word_count (Err muteness) k = 0
word_count (Ok measure) k = (get_or measure.sizes k no_size).words
