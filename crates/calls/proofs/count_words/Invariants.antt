use Rattle.std.proofs.Common.{length}
use Rattle.grammar.specs.PhraseWalk.{phrase_walk}
use Rattle.text.specs.HandOut.{reader_walk}
use Rattle.calls.specs.Calls.{Ahead}
use Rattle.calls.proofs.count_words.Given as goal

abbrev pub invariant-loop-word : goal.invariant-loop-word
invariant-loop-word l = Ahead l.count (phrase_walk l.phrase) (reader_walk l.reader)

abbrev pub decreases-loop-word : goal.decreases-loop-word
decreases-loop-word l = length (reader_walk l.reader).words
