use Rattle.std.proofs.Common.{is_some, sym, ap, ◌∙◌, arith, rules}
use Rattle.grammar.specs.Questions.{forms_of}
use Rattle.view.specs.Views.{image}
use Rattle.soundness.proofs.Asking.{asked_unknown}
use Rattle.image.proofs.Answered.{sound_bytes, entry_found, entry_missing, out_of_range}
use Rattle.image.proofs.sound.SoundImage.look_up.Goals as goal

pub are_forms-requires : goal.are_forms-requires
are_forms-requires c =
    omega (arith, ((sound_bytes (image c.args.self.now.view) c.args.self.now.sound).function_sound c.args.key.function (omega arith)).arity_range)

pub returns-then-key-functions : goal.returns-then-key-functions
returns-then-key-functions c = asked_unknown (image c.args.self.now.view) c.args.key.function (omega arith) c.args.key.forms

pub returns-then-not-are_forms : goal.returns-then-not-are_forms
returns-then-not-are_forms c =
    let b = image c.args.self.now.view in
    out_of_range b (sound_bytes b c.args.self.now.sound) c.args.key.function (omega arith) c.args.key.forms (search rules) (ap (λ n. is_some (forms_of n c.args.key.forms)) (sym c.arity.ensures) ∙ sym c.are_forms.ensures ∙ c.if-not-are_forms.true)

pub returns-in-Some : goal.returns-in-Some
returns-in-Some c =
    let b = image c.args.self.now.view in
    entry_found b (sound_bytes b c.args.self.now.sound) c.args.key.function (omega arith) c.args.key.forms (search rules) (ap (λ n. is_some (forms_of n c.args.key.forms)) (sym c.arity.ensures) ∙ sym c.are_forms.ensures ∙ c.if-not-are_forms.false) c.in-Some.rule c.in-Some.ensures

pub returns-in-None : goal.returns-in-None
returns-in-None c =
    let b = image c.args.self.now.view in
    entry_missing b (sound_bytes b c.args.self.now.sound) c.args.key.function (omega arith) c.args.key.forms (search rules) (ap (λ n. is_some (forms_of n c.args.key.forms)) (sym c.arity.ensures) ∙ sym c.are_forms.ensures ∙ c.if-not-are_forms.false) c.in-None.ensures
