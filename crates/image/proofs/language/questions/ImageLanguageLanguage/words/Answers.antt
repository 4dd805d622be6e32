use Rattle.std.proofs.Common.{length, ap, ◌∙◌}
use Rattle.view.specs.Grammar.{image_meaning}
use Rattle.view.specs.Views.{image}
use Rattle.image.proofs.Told.{words_told}
use Rattle.image.proofs.language.questions.ImageLanguageLanguage.words.Goals as goal

pub returns : goal.returns
returns c = c.words.ensures ∙ words_told (image c.view.result) ∙ ap (λ b. length (image_meaning b).words) c.view.ensures
