-- The image answers.
use Rattle.std.proofs.Common.{ap, ◌∙◌}
use Rattle.view.specs.Grammar.{image_meaning}
use Rattle.grammar.specs.Questions.{arguments_answer}
use Rattle.image.proofs.language.questions.ImageLanguageLanguage.arguments.Goals as goal

pub returns : goal.returns
returns c = c.arguments.ensures ∙ ap (λ b. arguments_answer (image_meaning b) c.args.function) c.image.ensures
