-- Each word that is handed out takes the next place.
use Rattle.phrase.proofs.Held.{one_more}
use Rattle.phrase.proofs.words.Phrase.read.Goals as goal

pub loop-word-preserved : goal.loop-word-preserved
loop-word-preserved c =
    one_more _ _ _ c.loop-word.invariant _ _ _ c.in_ok-word.ensures.handed _ c.in-Some.is c.push.result _ c.push.ensures.place c.push.ensures.put
