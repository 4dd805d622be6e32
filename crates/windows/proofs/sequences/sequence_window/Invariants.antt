-- The string so far is that of the symbols so far, and holds the phrase.
use Rattle.std.proofs.Common.{◌≡◌, List, take}
use Rattle.grammar.specs.Charts.{Item}
use Rattle.grammar.specs.Questions.{sequence_answer}
use Rattle.congruence.specs.NodeItems.{sequence_string}
use Rattle.measure.specs.Sums.{or_no_symbols}
use Rattle.phrase.specs.Spelled.{words_of}
use Rattle.windows.specs.Sequences.{argument_windows}
use Rattle.windows.specs.Strings.{own_string}
use Rattle.windows.proofs.sequences.sequence_window.Given as goal

abbrev pub invariant-loop-index : goal.invariant-loop-index
invariant-loop-index g l =
    (l.places.phrase.now ≡ l.fn.phrase)
    × ((items : List Item) → l.arguments ≡ argument_windows items → own_string l.places ≡ sequence_string (g.L.Language.meaning l.language) (words_of l.fn.phrase) items (take l.index (or_no_symbols (sequence_answer (g.L.Language.meaning l.language) l.key.function l.key.forms l.constituent))))
