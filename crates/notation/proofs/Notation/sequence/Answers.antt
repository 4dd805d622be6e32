-- A function that is there has its one sequence at forms that are all 0, and no other.
use Rattle.std.proofs.Common.{◌≡◌, Bool, true, false, cond, ◌&&◌, ◌==◌, List, length, Some, None, refl, sym, ap, ◌∙◌, arith}
use Rattle.std.specs.Bool.{then_some}
use Rattle.std.specs.Option.{option_map}
use Rattle.grammar.specs.Questions.{argument_list}
use Rattle.grammar.specs.declared.signature.Arguments.{Arguments}
use Rattle.grammar.specs.declared.symbol.Symbol.{Symbol}
use Rattle.notation.specs.Notations.{signature_in, written}
use Rattle.notation.specs.Asked.{sequence_none, sequence_told}
use Rattle.notation.proofs.Notation.sequence.Goals as goal

pub returns-in_err-arguments : goal.returns-in_err-arguments
returns-in_err-arguments c =
    let n = c.args.self.now in
    let f = c.args.key.function in
    ap (option_map (λ a. written (length (signature_in n).functions) f (argument_list a))) c.from_residual.ensures
    ∙ sym (sequence_none n.signature f c.args.key.forms c.args.constituent c.in_err-arguments.ensures)

-- what is done to a choice is done to what is chosen
mapped : {A B : Type 0} (h : A → B) (b : Bool) (x : A) → option_map h (then_some b x) ≡ cond b (Some (h x)) None
mapped h true x = refl
mapped h false x = refl

pub returns : goal.returns
returns c =
    let n = c.args.self.now in
    let f = c.args.key.function in
    let arguments = c.in_ok-arguments.field-0 in
    let word : Arguments → List Symbol = λ a. written (length (signature_in n).functions) f (argument_list a) in
    ap (option_map word) c.then_some.ensures
    ∙ mapped word (c.zero_forms.result && c.args.constituent == 0) arguments.arguments
    ∙ sym (sequence_told n.signature f c.args.key.forms arguments c.in_ok-arguments.ensures c.args.constituent _ c.zero_forms.result c.zero_forms.ensures refl (omega arith))
