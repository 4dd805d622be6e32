use Rattle.std.proofs.Common.{arith}
use Rattle.grammar.proofs.PhraseWalks.{at_most_32_words}
use Rattle.calls.proofs.Counting.{counted}
use Rattle.calls.proofs.count_words.Goals as goal

pub overflow_add-count : goal.overflow_add-count
overflow_add-count c = omega (arith, at_most_32_words c.args.phrase.now, c.loop-word.invariant.handed)

pub returns : goal.returns
returns c = counted c.args.phrase.now _ _ _ _ _ c.in_default.is c.in_ok-_word.ensures.handed c.loop-word.invariant
