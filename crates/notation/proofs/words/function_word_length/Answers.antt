-- The length of a number of one digit, and of two, with the f before it.
use Rattle.std.proofs.Common.{length, sym, ap, arith}
use Rattle.notation.specs.Spelled.{short_word, long_word}
use Rattle.notation.proofs.words.function_word_length.Goals as goal

pub returns-then-number-lt10 : goal.returns-then-number-lt10
returns-then-number-lt10 c = sym (ap length (short_word c.args.number (omega arith)))

pub returns-else-number-lt10 : goal.returns-else-number-lt10
returns-else-number-lt10 c = sym (ap length (long_word c.args.number (omega arith) (omega arith)))
