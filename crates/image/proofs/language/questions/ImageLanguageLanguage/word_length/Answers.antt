-- A word that the image has is as long as its field says.
use Rattle.std.proofs.Common.{length, sym, ap, ◌∙◌}
use Rattle.view.specs.Grammar.{image_meaning}
use Rattle.view.specs.Layout.{words, spelling, word_length}
use Rattle.view.specs.Views.{image}
use Rattle.grammar.specs.Questions.{word_length_answer}
use Rattle.soundness.proofs.Lawfulness.{word_long}
use Rattle.image.proofs.Answered.{sound_bytes}
use Rattle.image.proofs.Told.{told_below}
use Rattle.image.proofs.language.questions.ImageLanguageLanguage.word_length.Goals as goal

pub returns : goal.returns
returns c =
    let i = c.image-image.result in
    let v = image i.view in
    rw (c.then_some.ensures, c.words.ensures, c.word_length.ensures)
    (told_below (words v) c.args.word (spelling v) length (word_length v c.args.word) (λ lt. sym (word_long v (sound_bytes v i.sound) c.args.word lt))
    ∙ ap (λ b. word_length_answer (image_meaning b) c.args.word) c.image-image.ensures)
