-- A word is that of a function, or one of the marks after those.
use Rattle.std.proofs.Common.{◌-◌, length, sym, ap, ◌∙◌, arith}
use Rattle.std.specs.List.{slice_get}
use Rattle.grammar.specs.Questions.{at}
use Rattle.notation.specs.Notations.{marks, signature_in}
use Rattle.notation.specs.Spelled.{function_word_at, mark_at}
use Rattle.notation.proofs.language.NotationLanguage.word_byte.Goals as goal

pub returns-then-word-count : goal.returns-then-word-count
returns-then-word-count c =
    let count = length (signature_in c.args.self.now).functions in
    c.function_word_byte.ensures ∙ sym (ap (λ o. at o c.args.index) (function_word_at count c.args.word (omega arith)))

pub returns-else-word-count : goal.returns-else-word-count
returns-else-word-count c =
    let count = length (signature_in c.args.self.now).functions in
    c.mark_byte.ensures
    ∙ ap (λ n. at (slice_get marks (c.args.word - n)) c.args.index) (c.from-count.ensures ∙ c.count.ensures)
    ∙ sym (ap (λ o. at o c.args.index) (mark_at count c.args.word (omega arith)))
