-- The measures refuse the tree, or its text fits or not.
use Rattle.std.proofs.Common.{◌≡◌, ◌+◌, ◌-◌, ◌<◌, length, take, drop, Err, sym, subst, arith, rules}
use Rattle.std.proofs.lemmas.List.{length-drop, length-take-le}
use Rattle.std.proofs.lemmas.Result.{err_from_is_err_and}
use Rattle.writer.proofs.Growth.{put_on_page}
use Rattle.measure.proofs.Scans.{refused_as}
use Rattle.linearizer.specs.Says.{SaysCode}
use Rattle.linearizer.proofs.Saying.{unmeasured_refused, long_refused, fitting_room, measured_said, written_said}
use Rattle.linearizer.proofs.say.say.Goals as goal
use Rattle.linearizer.proofs.say.say.Goals.{then-start-page-via-then-start-page, then-start-page-via-else-start-page+then-length-page}

pub returns-in_err-measure_into : goal.returns-in_err-measure_into
returns-in_err-measure_into g c =
    let m = g.L.Language.meaning c.args.language.now in
    let refused = unmeasured_refused m c.args.tree.now c.args.page.now c.args.start c.in_err-measure_into.field-0.0 (refused_as m c.args.tree.now c.new-table.result c.measure_into.new.table c.in_err-measure_into.field-0.0 c.in_err-measure_into.ensures) in
    let err = err_from_is_err_and c.from_residual.result c.from_residual.ensures.1 in
    let same : c.from_residual.result ≡ Err c.in_err-measure_into.field-0.0 = search (rules, err.1, err.2) in
    subst (λ r. SaysCode m c.args.tree.now c.args.page.now c.args.start r c.args.page.now) (sym same) refused

pub returns-then-start-page : goal.returns-then-start-page
returns-then-start-page g c =
    let past : length c.args.page.now < c.args.start + c.text_length-length.result = elim c.then-start-page.branch [
      | then-start-page-via-then-start-page w ↦ omega arith
      | then-start-page-via-else-start-page+then-length-page w ↦ omega arith
    ] in
    long_refused (g.L.Language.meaning c.args.language.now) c.args.tree.now c.measure_into.new.table c.in_ok-measure_into.ensures c.text_length-length.result c.text_length-length.ensures c.args.page.now c.args.start past

pub write_front-requires : goal.write_front-requires
write_front-requires g c =
    let page = c.args.page.now in
    let start = c.args.start in
    let room : length (take (length page - start) (drop start page)) ≡ length page - start = length-take-le (length page - start) (drop start page) (simp length-drop (omega arith)) in
    fitting_room (g.L.Language.meaning c.args.language.now) c.args.tree.now c.measure_into.new.table c.in_ok-measure_into.ensures c.text_length-length.result c.text_length-length.ensures (length (take (length page - start) (drop start page))) (omega (arith, room))

pub returns : goal.returns
returns g c =
    written_said (g.L.Language.meaning c.args.language.now) c.args.tree.now c.measure_into.new.table c.in_ok-measure_into.ensures c.text_length-length.result c.text_length-length.ensures c.args.page.now c.args.start _ c.write_front.new.part (omega arith) c.write_front.ensures (λ text front. put_on_page c.args.page.now c.args.start text front)

pub invariant_of-measured : goal.invariant_of-measured
invariant_of-measured g c = record {
  of = sym c.in_ok-measure_into.ensures.0;
  said = measured_said (g.L.Language.meaning c.args.language.now) c.args.tree.now c.measure_into.new.table c.in_ok-measure_into.ensures;
}
