-- The length so far is that of the words so far, and so is the gap to the next word.
use Rattle.std.proofs.Common.{◌≡◌, ◌^◌, ◌<◌, length, take}
use Rattle.grammar.specs.Linearization.{spaced}
use Rattle.writer.specs.PutDown.{spellings}
use Rattle.writer.proofs.Spaced.{gap_after}
use Rattle.writer.proofs.page.text_length.Given as goal

abbrev pub invariant-loop-word : goal.invariant-loop-word
invariant-loop-word l =
    (l.text < 2 ^ 64)
    × (l.text ≡ length (spaced (spellings (take l.word-index l.words))))
    × (l.gap ≡ length (gap_after (spellings (take l.word-index l.words))))
