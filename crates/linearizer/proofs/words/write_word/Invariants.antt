-- The bytes so far are put down after the gap.
use Rattle.std.proofs.Common.{take}
use Rattle.writer.specs.PutDown.{Grown}
use Rattle.linearizer.specs.Frames.{spelling}
use Rattle.linearizer.proofs.words.write_word.Given as goal

abbrev pub invariant-loop-index : goal.invariant-loop-index
invariant-loop-index g l =
    Grown (take l.index (spelling (g.L.Language.meaning l.language) l.word)) l.initial.writer.started l.initial.writer l.writer
