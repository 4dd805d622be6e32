-- One word more makes the text longer by the gap and the word; past the largest number it stays past.
use Rattle.std.proofs.Common.{◌+◌, cond, [], ◌∷◌, length, ap, arith}
use Rattle.grammar.specs.Linearization.{blank}
use Rattle.writer.proofs.Spaced.{next_length, next_some, no_longer}
use Rattle.writer.proofs.page.text_length.Goals as goal

pub returns-in_err-text : goal.returns-in_err-text
returns-in_err-text c =
    let ws = c.args.words.now in
    let i = c.loop-word.word-index in
    rw c.from_residual.ensures
    (λ fits. c.in_err-text.ensures (omega (arith, next_length ws i (omega arith), no_longer ws (i + 1))))

pub loop-word-preserved : goal.loop-word-preserved
loop-word-preserved c =
    let ws = c.args.words.now in
    let i = c.loop-word.word-index in
    let told = c.in_ok-text.ensures in
    let one = ap (λ some. length (cond some (blank ∷ []) [])) (next_some ws i (omega arith)) in
    (omega (arith, told.0, told.1), omega (arith, next_length ws i (omega arith), told.1), omega (arith, one))
