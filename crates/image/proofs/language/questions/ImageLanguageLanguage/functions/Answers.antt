use Rattle.std.proofs.Common.{length, ap, ◌∙◌}
use Rattle.view.specs.Grammar.{image_meaning}
use Rattle.view.specs.Views.{image}
use Rattle.image.proofs.Told.{functions_told}
use Rattle.image.proofs.language.questions.ImageLanguageLanguage.functions.Goals as goal

pub returns : goal.returns
returns c = c.functions.ensures ∙ functions_told (image c.view.result) ∙ ap (λ b. length (image_meaning b).signature.functions) c.view.ensures
