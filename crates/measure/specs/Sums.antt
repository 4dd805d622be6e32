-- What a rule makes of the sizes of its arguments.
use Rattle.std.specs.Prelude.{ℕ, ◌<◌, ◌≤◌, List, [], ◌∷◌, map, Some, None, Ok, Err, Option, Result, slice_index_or}
use Rattle.std.specs.List.{flat_map, AllByRecursion}
use Rattle.grammar.specs.declared.symbol.Symbol.{Symbol}
use Rattle.grammar.specs.declared.symbol.Symbol.TheVariants.{Word, Reference}
use Rattle.grammar.specs.Languages.{Meaning, Words}
use Rattle.grammar.specs.Linearization.{Said, nothing_said, symbol_words}
use Rattle.grammar.specs.Questions.{sequence_answer}
use Rattle.measure.specs.declared.kinds.Measure.{Measure}
use Rattle.measure.specs.declared.kinds.Muteness.{Muteness}
use Rattle.measure.specs.declared.kinds.Size.{Size}
use Rattle.measure.specs.Sizes.{measure_of}

-- the measures of three arguments; one that is not there has the measure of nothing
abbrev pub argument_measures : List Said → List Measure
argument_measures all =
    measure_of (slice_index_or all 0 nothing_said) ∷ measure_of (slice_index_or all 1 nothing_said) ∷ measure_of (slice_index_or all 2 nothing_said) ∷ []

abbrev pub measure_forms : List Measure → List ℕ
measure_forms ms = map (λ (m : Measure). m.form) ms

-- the size of a constituent of an argument of a tree at most 6 deep: 8 ^ 5 words of at most 24 bytes
abbrev pub ArgumentSize : Size → Type 0
ArgumentSize s = (s.words ≤ 32768) × (s.bytes ≤ 786432)

abbrev pub ArgumentSizes : List Measure → Type 0
ArgumentSizes ms = AllByRecursion (λ (m : Measure). AllByRecursion ArgumentSize m.sizes) ms

-- a reference that names one of three arguments and one of four constituents
abbrev pub InRange : Symbol → Type 0
InRange (Word n) = Unit {0}
InRange (Reference a k) = (a < 3) × (k < 4)

abbrev pub or_no_symbols : Option (List Symbol) → List Symbol
or_no_symbols None = []
or_no_symbols (Some symbols) = symbols

-- the words of constituent k, by the rule that the question names
abbrev pub sequence_words : Meaning → List Said → ℕ → List ℕ → ℕ → Words
sequence_words m all f forms k = flat_map (symbol_words m all) (or_no_symbols (sequence_answer m f forms k))

-- three measures, or the first mute node that is told in place of one
abbrev pub all_three : Result Measure Muteness → Result Measure Muteness → Result Measure Muteness → Result (List Measure) Muteness
all_three (Err muteness) second third = Err muteness
all_three (Ok a) (Err muteness) third = Err muteness
all_three (Ok a) (Ok b) (Err muteness) = Err muteness
all_three (Ok a) (Ok b) (Ok c) = Ok (a ∷ b ∷ c ∷ [])
