-- The words so far are read, and the reader has the others.
use Rattle.std.proofs.Common.{length}
use Rattle.tables.specs.Held.{held}
use Rattle.text.specs.HandOut.{reader_walk}
use Rattle.phrase.proofs.Held.{Reading}
use Rattle.phrase.proofs.words.Phrase.read.Given as goal

abbrev pub invariant-loop-word : goal.invariant-loop-word
invariant-loop-word l = Reading l.bytes (held l.words) (reader_walk l.reader)

abbrev pub decreases-loop-word : goal.decreases-loop-word
decreases-loop-word l = length (reader_walk l.reader).words
