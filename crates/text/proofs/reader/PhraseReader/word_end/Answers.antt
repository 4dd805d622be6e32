-- A letter more, and the blank at which a word ends, by what the walk does at the byte where the scan stands.
use Rattle.std.proofs.Common.{sym, arith}
use Rattle.text.proofs.Scan.{blank_ends, few_words, letter_more}
use Rattle.text.proofs.reader.PhraseReader.word_end.Goals as goal

pub returns-in-Blank : goal.returns-in-Blank
returns-in-Blank c =
    blank_ends c.loop-end.invariant (omega arith) (sym c.in-Blank.ensures) (omega arith) (omega arith)

pub loop-end-preserved : goal.loop-end-preserved
loop-end-preserved c =
    letter_more c.loop-end.invariant (omega arith) (sym c.in-Letter.ensures) (few_words c.loop-end.invariant (λ begins. grind (arith, c.else-length-eq0.either))) (omega arith)
