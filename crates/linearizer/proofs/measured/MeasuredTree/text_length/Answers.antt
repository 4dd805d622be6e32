-- The whole tree's measure is that of its constituent 0.
use Rattle.std.proofs.Common.{◌≡◌, Ok, Err, Result, get_or, sym, ap, ◌∙◌, arith}
use Rattle.measure.specs.declared.kinds.Measure.{Measure}
use Rattle.measure.specs.Sizes.{measure_of}
use Rattle.linearizer.proofs.Saying.{root_measure}
use Rattle.linearizer.proofs.measured.MeasuredTree.text_length.Goals as goal

pub returns-in-Ok : goal.returns-in-Ok
returns-in-Ok g c t s is said =
    let m = g.L.Language.meaning c.args.self.now.language.now in
    let root = root_measure m t s c.args.self.now.table.now c.at.result (c.args.self.now.said t is).1 said c.at.ensures in
    let same : c.in-Ok.measure ≡ measure_of s = cc (root, c.in-Ok.is) in
    let bytes = ap (λ (x : Measure). (get_or x.sizes 0 record { words = 0; bytes = 0 }).bytes) same in
    let words = ap (λ (x : Measure). (get_or x.sizes 0 record { words = 0; bytes = 0 }).words) same in
    omega (arith, c.saturating_sub.ensures)

ok_err : {A B : Type 0} {a : A} {b : B} → ◌≡◌ {A = Result A B} (Ok a) (Err b) → ⊥
ok_err e = cc e

pub returns-in-Err : goal.returns-in-Err
returns-in-Err g c t s is said =
    let m = g.L.Language.meaning c.args.self.now.language.now in
    absurd (ok_err (sym (root_measure m t s c.args.self.now.table.now c.at.result (c.args.self.now.said t is).1 said c.at.ensures) ∙ c.in-Err.is))
