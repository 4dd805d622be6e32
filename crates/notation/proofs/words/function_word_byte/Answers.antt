-- The bytes of a number of one digit, and of two.
use Rattle.std.proofs.Common.{sym, ap, ◌∙◌, arith}
use Rattle.std.specs.List.{slice_get}
use Rattle.notation.specs.Spelled.{short_word, long_word}
use Rattle.notation.proofs.words.function_word_byte.Goals as goal

pub returns-then-number-lt10 : goal.returns-then-number-lt10
returns-then-number-lt10 c = c.item.ensures ∙ ap (λ w. slice_get w c.args.index) (sym (short_word c.args.number (omega arith)))

pub returns-else-number-lt10 : goal.returns-else-number-lt10
returns-else-number-lt10 c =
    c.item-else-number-lt10.ensures ∙ ap (λ w. slice_get w c.args.index) (sym (long_word c.args.number (omega arith) (omega arith)))
