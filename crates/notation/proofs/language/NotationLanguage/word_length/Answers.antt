-- A word is that of a function, one of the marks, or past them.
use Rattle.std.proofs.Common.{◌-◌, length, Some, sym, ap, ◌∙◌, arith}
use Rattle.std.specs.Option.{option_map}
use Rattle.std.proofs.lemmas.Option.{slice_get_past}
use Rattle.notation.specs.Notations.{marks, signature_in}
use Rattle.notation.specs.Spelled.{function_word_at, mark_at, mark_length}
use Rattle.notation.proofs.language.NotationLanguage.word_length.Goals as goal

pub returns-then-word-count : goal.returns-then-word-count
returns-then-word-count c =
    let count = length (signature_in c.args.self.now).functions in
    ap Some c.function_word_length.ensures ∙ sym (ap (option_map length) (function_word_at count c.args.word (omega arith)))

pub returns-then-word-count-2 : goal.returns-then-word-count-2
returns-then-word-count-2 c =
    let count = length (signature_in c.args.self.now).functions in
    sym (ap (option_map length) (mark_at count c.args.word (omega arith)) ∙ mark_length (c.args.word - count) (omega arith))

pub returns-else-word-count-2 : goal.returns-else-word-count-2
returns-else-word-count-2 c =
    let count = length (signature_in c.args.self.now).functions in
    sym (ap (option_map length) (mark_at count c.args.word (omega arith) ∙ slice_get_past marks (c.args.word - count) (omega arith)))
