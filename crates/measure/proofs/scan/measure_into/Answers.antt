-- What the table tells of the whole tree is the answer.
use Rattle.std.proofs.Common.{◌≡◌, Ok, Err, sym, ap, ◌∙◌, subst}
use Rattle.std.proofs.lemmas.Result.{err_from_is_err_and}
use Rattle.fault.specs.declared.kinds.SayFault.TheVariants.{Mute}
use Rattle.measure.specs.Scanned.{MeasuredInto}
use Rattle.measure.specs.Sizes.{SaidAt}
use Rattle.measure.proofs.Scans.{whole_told, whole_mute}
use Rattle.measure.proofs.scan.measure_into.Goals as goal

pub returns-in_err-at : goal.returns-in_err-at
returns-in_err-at g c =
    let m = g.L.Language.meaning c.args.language.now in
    let same = c.is_of.ensures.same c.if-not-is_of.false in
    let err = err_from_is_err_and c.from_residual.result c.from_residual.ensures.1 in
    let fault : c.from_residual.result ≡ Err (Mute c.in_err-at.field-0.0.node) = err.1 ∙ ap Err err.2 in
    subst (λ r. MeasuredInto m c.args.tree.now c.args.table.now r c.scan.new.table) (sym fault) (same, λ t is. (whole_mute m t c.in_err-at.field-0.0 (subst (SaidAt m 0 t) c.in_err-at.was (whole_told m t c.scan.new.table c.at.result (c.scan.ensures t is) c.at.ensures)), c.scan.ensures t is))

pub returns : goal.returns
returns g c = (
  c.is_of.ensures.same c.if-not-is_of.false,
  λ t is.
      let m = g.L.Language.meaning c.args.language.now in
      let told : SaidAt m 0 t (Ok c.in_ok-at.field-0) = subst (SaidAt m 0 t) c.in_ok-at.was (whole_told m t c.scan.new.table c.at.result (c.scan.ensures t is) c.at.ensures) in
      (told.0, told.1, c.scan.ensures t is),
)
