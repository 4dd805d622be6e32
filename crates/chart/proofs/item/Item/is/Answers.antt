-- Two items are the same when their parts are.
use Rattle.std.proofs.Common.{None, sym, ◌∙◌, refl, arith, rules, tests}
use Rattle.std.proofs.lemmas.Bool.{true≢false}
use Rattle.chart.proofs.Holding.{four, parts_decide}
use Rattle.chart.proofs.item.Item.is.Goals as goal

pub returns : goal.returns
returns c =
    let d = parts_decide c.args.self.now c.args.other.now _ _ _ c.eq.result c.eq.ensures refl refl (four _ c.args.other.now.windows None (omega arith) (omega arith) refl refl refl refl) in
    record { same = d.0; other = λ no e. true≢false (sym (d.1 e) ∙ no) }
