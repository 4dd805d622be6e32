-- A function that the image has is told by its field.
use Rattle.std.proofs.Common.{◌≡◌, ltb, rules, refl, ap, ◌∙◌}
use Rattle.std.specs.Bool.{then_some}
use Rattle.view.specs.Grammar.{image_function, image_meaning}
use Rattle.view.specs.Layout.{functions, result}
use Rattle.view.specs.Views.{image}
use Rattle.grammar.specs.Questions.{function_result, result_answer}
use Rattle.image.proofs.Told.{told_below}
use Rattle.image.proofs.language.questions.ImageLanguageLanguage.result.Goals as goal

pub returns : goal.returns
returns c =
    let v = image c.view-view.result in
    let read : c.then_some.result ≡ then_some (ltb c.args.function (functions v)) (result v c.args.function) = search rules in
    read
    ∙ told_below (functions v) c.args.function (image_function v) function_result (result v c.args.function) (λ lt. refl)
    ∙ ap (λ b. result_answer (image_meaning b) c.args.function) c.view-view.ensures
