-- A byte of a word that the image has is one of its spelling.
use Rattle.std.proofs.Common.{Some, ap, ◌∙◌, arith}
use Rattle.view.specs.Grammar.{image_meaning}
use Rattle.view.specs.Views.{image}
use Rattle.grammar.specs.Questions.{word_byte_answer}
use Rattle.image.proofs.Answered.{sound_bytes}
use Rattle.image.proofs.Told.{word_byte_told, word_byte_past, word_byte_none}
use Rattle.image.proofs.language.questions.ImageLanguageLanguage.word_byte.Goals as goal

pub returns-then-word-words : goal.returns-then-word-words
returns-then-word-words c =
    word_byte_none (image c.image-image.result.view) c.args.word c.args.index (omega arith) ∙ ap (λ b. word_byte_answer (image_meaning b) c.args.word c.args.index) c.image-image.ensures

pub returns-then-index-word_length : goal.returns-then-index-word_length
returns-then-index-word_length c =
    let v = image c.image-image.result.view in
    word_byte_past v (sound_bytes v c.image-image.result.sound) c.args.word c.args.index (omega arith) (omega arith) ∙ ap (λ b. word_byte_answer (image_meaning b) c.args.word c.args.index) c.image-image.ensures

pub returns : goal.returns
returns c =
    let v = image c.image-image.result.view in
    ap Some c.spelled_byte.ensures ∙ word_byte_told v (sound_bytes v c.image-image.result.sound) c.args.word c.args.index (omega arith) (omega arith) ∙ ap (λ b. word_byte_answer (image_meaning b) c.args.word c.args.index) c.image-image.ensures
