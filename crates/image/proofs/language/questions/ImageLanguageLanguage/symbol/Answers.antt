use Rattle.std.proofs.Common.{◌+◌, ◌<◌, Some, sym, ap, ◌∙◌, subst, arith}
use Rattle.view.specs.Grammar.{image_meaning, symbol_of}
use Rattle.view.specs.Layout.{symbol_bits}
use Rattle.view.specs.Views.{image}
use Rattle.grammar.specs.Questions.{at, symbol_answer}
use Rattle.image.proofs.Answered.{sound_bytes}
use Rattle.image.proofs.Told.{its_entry, no_entry, symbol_none, symbol_past, symbol_told, symbol_low, number_low}
use Rattle.image.proofs.language.questions.ImageLanguageLanguage.symbol.Goals as goal

pub returns-in_err-rule : goal.returns-in_err-rule
returns-in_err-rule c =
    let v = image c.image-image.result.view in
    c.from_residual.ensures ∙ ap (λ o. at o c.args.index) (no_entry v c.args.key.function c.args.key.forms c.look_up.result c.look_up.ensures c.in_err-rule.ensures c.args.constituent)
    ∙ ap (λ b. symbol_answer (image_meaning b) c.args.key.function c.args.key.forms c.args.constituent c.args.index) c.image-image.ensures

pub returns-then-constituent-rule_dimension : goal.returns-then-constituent-rule_dimension
returns-then-constituent-rule_dimension c =
    let i = c.image-image.result in
    let v = image i.view in
    let s = sound_bytes v i.sound in
    let entry = its_entry v c.args.key.function c.args.key.forms c.look_up.result c.look_up.ensures c.in_ok-rule.rule c.in_ok-rule.ensures in
    symbol_none v s c.args.key.function c.args.key.forms c.in_ok-rule.rule entry c.args.constituent c.args.index (omega arith) ∙ ap (λ b. symbol_answer (image_meaning b) c.args.key.function c.args.key.forms c.args.constituent c.args.index) c.image-image.ensures

pub returns-then-index-symbol_count : goal.returns-then-index-symbol_count
returns-then-index-symbol_count c =
    let i = c.image-image.result in
    let v = image i.view in
    let s = sound_bytes v i.sound in
    let entry = its_entry v c.args.key.function c.args.key.forms c.look_up.result c.look_up.ensures c.in_ok-rule.rule c.in_ok-rule.ensures in
    symbol_past v s c.args.key.function c.args.key.forms c.in_ok-rule.rule entry c.args.constituent c.args.index (omega arith) (omega arith) ∙ ap (λ b. symbol_answer (image_meaning b) c.args.key.function c.args.key.forms c.args.constituent c.args.index) c.image-image.ensures

pub overflow_add-number : goal.overflow_add-number
overflow_add-number c =
    let i = c.image-image.result in
    let v = image i.view in
    let s = sound_bytes v i.sound in
    let entry = its_entry v c.args.key.function c.args.key.forms c.look_up.result c.look_up.ensures c.in_ok-rule.rule c.in_ok-rule.ensures in
    omega (arith, number_low v s c.args.key.function c.args.key.forms c.in_ok-rule.rule entry c.args.constituent c.args.index (omega arith) (omega arith))

pub decode_symbol-requires : goal.decode_symbol-requires
decode_symbol-requires c =
    let i = c.image-image.result in
    let v = image i.view in
    let s = sound_bytes v i.sound in
    let entry = its_entry v c.args.key.function c.args.key.forms c.look_up.result c.look_up.ensures c.in_ok-rule.rule c.in_ok-rule.ensures in
    let low = symbol_low v s c.args.key.function c.args.key.forms c.in_ok-rule.rule entry c.args.constituent c.args.index (omega arith) (omega arith) in
    subst (λ n. n < 0x8400) (sym (c.symbol.ensures ∙ ap (λ k. symbol_bits v (c.first_symbol.result + k)) c.from.ensures ∙ ap (λ n. symbol_bits v (n + c.args.index)) c.first_symbol.ensures)) low

pub returns : goal.returns
returns c =
    let i = c.image-image.result in
    let v = image i.view in
    let s = sound_bytes v i.sound in
    let entry = its_entry v c.args.key.function c.args.key.forms c.look_up.result c.look_up.ensures c.in_ok-rule.rule c.in_ok-rule.ensures in
    ap Some (c.decode_symbol.ensures ∙ ap symbol_of (c.symbol.ensures ∙ ap (λ k. symbol_bits v (c.first_symbol.result + k)) c.from.ensures ∙ ap (λ n. symbol_bits v (n + c.args.index)) c.first_symbol.ensures))
    ∙ symbol_told v s c.args.key.function c.args.key.forms c.in_ok-rule.rule entry c.args.constituent c.args.index (omega arith) (omega arith) ∙ ap (λ b. symbol_answer (image_meaning b) c.args.key.function c.args.key.forms c.args.constituent c.args.index) c.image-image.ensures
