-- The words so far are written.
use Rattle.std.proofs.Common.{take}
use Rattle.grammar.specs.Linearization.{spaced}
use Rattle.writer.specs.PutDown.{Grown, some_words, spellings}
use Rattle.writer.proofs.page.write_all.Given as goal

abbrev pub invariant-loop-word : goal.invariant-loop-word
invariant-loop-word l =
    Grown (spaced (spellings (take l.word-index l.words))) (some_words (spellings (take l.word-index l.words))) l.initial.writer l.writer
