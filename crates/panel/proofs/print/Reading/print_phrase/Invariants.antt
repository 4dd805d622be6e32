-- Each word that is handed out leaves fewer.
use Rattle.std.proofs.Common.{length}
use Rattle.text.specs.HandOut.{reader_walk}
use Rattle.panel.proofs.print.Reading.print_phrase.Given as goal

abbrev pub decreases-loop-word : goal.decreases-loop-word
decreases-loop-word l = length (reader_walk l.reader).words
