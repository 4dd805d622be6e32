-- Each constituent has the size of its sequence.
use Rattle.std.proofs.Common.{◌≡◌, ℕ, List, [], ◌∷◌, Some, sym, ap, ◌∙◌, arith, rules}
use Rattle.grammar.specs.Linearization.{Said}
use Rattle.measure.specs.declared.kinds.Size.{Size}
use Rattle.measure.specs.Sizes.{size_of}
use Rattle.measure.specs.Sums.{argument_measures, sequence_words}
use Rattle.measure.proofs.Mapped.{maps_each}
use Rattle.measure.proofs.Ruled.{no_size, rule_measured}
use Rattle.measure.proofs.sums.ArgumentMeasures.by_rule.Goals as goal

pub returns-in-Form : goal.returns-in-Form
returns-in-Form g c all same key =
    let m = g.L.Language.meaning c.args.language.now in
    let measures = c.args.self.now.measures in
    let P : ℕ → Size → Type 0 = λ k size. (all : List Said) → measures ≡ argument_measures all → size ≡ size_of (sequence_words m all c.args.key.function c.args.key.forms k) in
    let each = maps_each _ _ P (λ x y q k. search rules) (0 ∷ 1 ∷ 2 ∷ 3 ∷ []) c.map.result 0 4 c.map.ensures.items.each 0 no_size in
    let told = ap Some (sym c.in-Form.is) ∙ sym c.in_ok-rule.was ∙ c.rule.ensures in
    rule_measured m c.args.key.function c.args.key.forms all c.in-Form.form c.map.result key told c.map.ensures.items.long (each 0 (omega arith) (omega arith) all same) (each 1 (omega arith) (omega arith) all same) (each 2 (omega arith) (omega arith) all same) (each 3 (omega arith) (omega arith) all same)
