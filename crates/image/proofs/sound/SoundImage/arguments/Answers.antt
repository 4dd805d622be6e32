-- By the arity, which is at most 3, each argument is told by its field.
use Rattle.std.proofs.Common.{◌≡◌, sym, ◌∙◌, arith}
use Rattle.view.specs.Layout.{arity}
use Rattle.view.specs.Views.{image}
use Rattle.soundness.proofs.Asking.{arguments_unknown}
use Rattle.image.proofs.Answered.{sound_bytes}
use Rattle.image.proofs.Told.{arguments_told}
use Rattle.image.proofs.sound.SoundImage.arguments.Goals as goal

pub returns-then-function-functions : goal.returns-then-function-functions
returns-then-function-functions c = sym (arguments_unknown (image c.args.self.now.view) c.args.function (omega arith))

pub returns-in-0 : goal.returns-in-0
returns-in-0 c = arguments_told (image c.args.self.now.view) c.args.function (omega arith) 0 (sym c.in-0.is ∙ c.arity.ensures)

pub returns-in-1 : goal.returns-in-1
returns-in-1 c =
    rw c.argument.ensures (arguments_told (image c.args.self.now.view) c.args.function (omega arith) 1 (sym c.in-1.is ∙ c.arity.ensures))

pub returns-in-2 : goal.returns-in-2
returns-in-2 c =
    rw (c.argument-in-2.ensures, c.argument-in-2-2.ensures)
    (arguments_told (image c.args.self.now.view) c.args.function (omega arith) 2 (sym c.in-2.is ∙ c.arity.ensures))

pub returns-in_default : goal.returns-in_default
returns-in_default c =
    let b = image c.args.self.now.view in
    let few = ((sound_bytes b c.args.self.now.sound).function_sound c.args.function (omega arith)).arity_range in
    let three : 3 ≡ arity b c.args.function = omega (arith, few) in
    rw (c.argument-in_default.ensures, c.argument-in_default-2.ensures, c.argument-in_default-3.ensures)
    (arguments_told b c.args.function (omega arith) 3 three)
