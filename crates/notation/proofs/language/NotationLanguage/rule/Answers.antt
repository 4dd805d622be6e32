-- No function and forms out of range have no answer; else the rule is there at forms that are all 0.
use Rattle.std.proofs.Common.{false, is_some, sym, ap, ◌∙◌, arith}
use Rattle.grammar.specs.Questions.{forms_of}
use Rattle.notation.specs.Asked.{rule_at_zeros, rule_none, rule_outside, rule_inside}
use Rattle.notation.proofs.language.NotationLanguage.rule.Goals as goal

pub returns-in_err-function : goal.returns-in_err-function
returns-in_err-function c =
    c.from_residual.ensures
    ∙ sym (rule_none c.args.self.now.signature c.args.key.function c.args.key.forms c.in_err-function.ensures)

pub returns-then-zero_forms : goal.returns-then-zero_forms
returns-then-zero_forms c =
    sym
    (rule_at_zeros c.args.self.now.signature c.args.key.function c.args.key.forms c.in_ok-function.function c.in_ok-function.ensures
    (omega arith) c.if-zero_forms.ensures)

pub returns-then-are_forms : goal.returns-then-are_forms
returns-then-are_forms c =
    sym
    (rule_inside c.args.self.now.signature c.args.key.function c.args.key.forms c.in_ok-function.function c.in_ok-function.ensures
    false c.if-zero_forms.ensures (c.if-are_forms.ensures ∙ ap (λ n. is_some (forms_of n c.args.key.forms)) c.arity.ensures))

pub returns-else-are_forms : goal.returns-else-are_forms
returns-else-are_forms c =
    sym
    (rule_outside c.args.self.now.signature c.args.key.function c.args.key.forms c.in_ok-function.function c.in_ok-function.ensures
    (c.if-are_forms.ensures ∙ ap (λ n. is_some (forms_of n c.args.key.forms)) c.arity.ensures))
