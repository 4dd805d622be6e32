-- The text fills the memory that was got for it.
use Rattle.std.proofs.Common.{◌≡◌, ℕ, List, length, drop, Err, vec_items, sym, ap, ◌∙◌, subst, arith}
use Rattle.std.specs.declared.alloc.Global.{Global}
use Rattle.std.proofs.lemmas.List.{take_at}
use Rattle.std.proofs.lemmas.Result.{err_from_is_err_and}
use Rattle.linearizer.specs.declared.text.TextFault.TheVariants.{Unsaid}
use Rattle.grammar.specs.Trees.{Tree}
use Rattle.tree.specs.Codes.{IsTree}
use Rattle.tree.specs.Read.{bytes_of, tree_signature}
use Rattle.measure.proofs.Scans.{refused_as}
use Rattle.linearizer.specs.Says.{TextOf}
use Rattle.linearizer.specs.Texts.{TextTold}
use Rattle.linearizer.proofs.Saying.{filled_text, fitting_room, measured_said, unmeasured_text}
use Rattle.linearizer.proofs.text.whole.text_of.Goals as goal

pub returns-in_err-measure_into : goal.returns-in_err-measure_into
returns-in_err-measure_into g c =
    let m = g.L.Language.meaning c.args.language.now in
    let err = err_from_is_err_and c.from_residual.result c.from_residual.ensures.1 in
    let same : c.from_residual.result ≡ Err (Unsaid c.in_err-measure_into.field-0.0) = err.1 ∙ ap Err err.2 in
    subst (TextTold (vec_items {X = ℕ} {Z = Global}) m c.args.tree.now) (sym same) (unmeasured_text (vec_items {X = ℕ} {Z = Global}) m c.args.tree.now c.in_err-measure_into.field-0.0 (refused_as m c.args.tree.now c.new-table.result c.measure_into.new.table c.in_err-measure_into.field-0.0 c.in_err-measure_into.ensures))

pub write_front-requires : goal.write_front-requires
write_front-requires g c =
    fitting_room (g.L.Language.meaning c.args.language.now) c.args.tree.now c.measure_into.new.table c.in_ok-measure_into.ensures c.text_length.result c.text_length.ensures (length c.as_mut_slice.result.now) (omega (arith, c.as_mut_slice.ensures.len, c.in_ok-text.ensures.len))

pub returns : goal.returns
returns g c =
    let m = g.L.Language.meaning c.args.language.now in
    let part = c.write_front.new.part in
    let n = c.text_length.result in
    let made = c.in_ok-text.ensures.len in
    let all = filled_text m c.args.tree.now c.measure_into.new.table c.in_ok-measure_into.ensures n c.text_length.ensures c.as_mut_slice.result.now part (omega (arith, c.as_mut_slice.ensures.len, made)) c.write_front.ensures in
    let same = take_at part (drop (length part) c.in_ok-text.text.items) c.in_ok-text.text.len (omega (arith, all.0, made)) in
    let P : List ℕ → Type 0 = λ text. (tree_signature c.args.tree.now ≡ m.signature) × ((t : Tree) × IsTree (tree_signature c.args.tree.now) (bytes_of c.args.tree.now) t × TextOf m t text) in
    subst P (sym same) (all.1, all.2)

pub invariant_of-measured : goal.invariant_of-measured
invariant_of-measured g c = record {
  of = sym c.in_ok-measure_into.ensures.0;
  said = measured_said (g.L.Language.meaning c.args.language.now) c.args.tree.now c.measure_into.new.table c.in_ok-measure_into.ensures;
}
