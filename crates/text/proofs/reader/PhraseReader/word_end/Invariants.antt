-- The scan of a word keeps what `Scanning` says.
use Rattle.text.proofs.Scan.{Scanning}
use Rattle.text.proofs.reader.PhraseReader.word_end.Given as goal

abbrev pub invariant-loop-end : goal.invariant-loop-end
invariant-loop-end l = Scanning l.self.words l.self.place l.end l.self.phrase.now
