-- The gap and the word have room, and are put down one after the other.
use Rattle.writer.specs.PutDown.{gap}
use Rattle.writer.proofs.Growth.{grown_on}
use Rattle.writer.proofs.WordWriter.write_word.Goals as goal

-- first the gap and then the word
pub returns : goal.returns
returns c = grown_on (gap c.args.self.now) c.args.word.now c.if-not-begin_word.ensures c.put_all.ensures
