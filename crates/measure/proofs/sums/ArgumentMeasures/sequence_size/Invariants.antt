-- The size so far is that of the symbols so far, each of the size of an argument's constituent at most.
use Rattle.std.proofs.Common.{◌≡◌, ◌*◌, ◌≤◌, List, take}
use Rattle.std.specs.List.{flat_map}
use Rattle.grammar.specs.Linearization.{Said, symbol_words}
use Rattle.grammar.specs.Questions.{sequence_answer}
use Rattle.measure.specs.Sizes.{size_of}
use Rattle.measure.specs.Sums.{argument_measures, or_no_symbols}
use Rattle.measure.proofs.sums.ArgumentMeasures.sequence_size.Given as goal

abbrev pub invariant-loop-index : goal.invariant-loop-index
invariant-loop-index g l = record {
  words : l.size.words ≤ l.index * 32768;
  bytes : l.size.bytes ≤ l.index * 786432;
  sum : (all : List Said) → l.self.measures ≡ argument_measures all → l.size ≡ size_of (flat_map (symbol_words (g.L.Language.meaning l.language) all) (take l.index (or_no_symbols (sequence_answer (g.L.Language.meaning l.language) l.key.function l.key.forms l.constituent))));
}
