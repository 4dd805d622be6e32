-- A category that the image has is told by its field.
use Rattle.std.proofs.Common.{refl, ap, ◌∙◌}
use Rattle.std.specs.List.{slice_get}
use Rattle.std.proofs.lemmas.Iterator.Adapters.{option_map_id}
use Rattle.view.specs.Grammar.{image_meaning}
use Rattle.view.specs.Layout.{categories, dimension}
use Rattle.view.specs.Views.{image}
use Rattle.image.proofs.Told.{told_below}
use Rattle.image.proofs.language.questions.ImageLanguageLanguage.dimension.Goals as goal

pub returns : goal.returns
returns c =
    let v = image c.view-view.result in
    rw (c.then_some.ensures, c.categories.ensures, c.dimension.ensures)
    (told_below (categories v) c.args.category (dimension v) (λ x. x) (dimension v c.args.category) (λ lt. refl)
    ∙ option_map_id _ ∙ ap (λ b. slice_get (image_meaning b).dimensions c.args.category) c.view-view.ensures)
