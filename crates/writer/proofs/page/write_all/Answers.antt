-- Each turn writes one word more, which fits since all words do.
use Rattle.std.proofs.Common.{arith}
use Rattle.writer.proofs.Growth.{grown_word}
use Rattle.writer.proofs.page.write_all.Goals as goal

pub loop-word-preserved : goal.loop-word-preserved
loop-word-preserved c =
    grown_word c.args.words.now c.loop-word.word-index c.write_word.result (omega arith) c.requires.room c.loop-word.invariant c.write_word.ensures
