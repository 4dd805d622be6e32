-- The entry's rule has a sequence for each constituent of its result.
use Rattle.std.proofs.Common.{length, ap, ◌∙◌}
use Rattle.std.specs.Option.{option_map}
use Rattle.view.specs.Grammar.{image_meaning}
use Rattle.view.specs.Views.{image}
use Rattle.grammar.specs.Questions.{sequence_length_answer}
use Rattle.image.proofs.Answered.{sound_bytes}
use Rattle.image.proofs.Told.{its_entry, no_entry, sequence_told}
use Rattle.image.proofs.language.questions.ImageLanguageLanguage.sequence_length.Goals as goal

pub returns-in_err-rule : goal.returns-in_err-rule
returns-in_err-rule c =
    let v = image c.image-image.result.view in
    c.from_residual.ensures ∙ ap (option_map length) (no_entry v c.args.key.function c.args.key.forms c.look_up.result c.look_up.ensures c.in_err-rule.ensures c.args.constituent)
    ∙ ap (λ b. sequence_length_answer (image_meaning b) c.args.key.function c.args.key.forms c.args.constituent) c.image-image.ensures

pub returns : goal.returns
returns c =
    let i = c.image-image.result in
    let v = image i.view in
    let entry = its_entry v c.args.key.function c.args.key.forms c.look_up.result c.look_up.ensures c.in_ok-rule.rule c.in_ok-rule.ensures in
    rw (c.then_some.ensures, c.rule_dimension.ensures, c.symbol_count.ensures)
    (sequence_told v (sound_bytes v i.sound) c.args.key.function c.args.key.forms c.in_ok-rule.rule entry c.args.constituent
    ∙ ap (λ b. sequence_length_answer (image_meaning b) c.args.key.function c.args.key.forms c.args.constituent) c.image-image.ensures)
