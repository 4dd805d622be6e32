-- Each turn measures one node more.
use Rattle.std.proofs.Common.{sym, subst, arith}
use Rattle.tree.specs.Read.{bytes_of}
use Rattle.measure.specs.Measured.{MeasuredFrom}
use Rattle.grammar.proofs.Nth.{nth_missing}
use Rattle.measure.proofs.Scans.{measured_none, next_node, one_node_more, place_fits}
use Rattle.measure.proofs.scan.scan.Goals as goal

pub loop-place-init : goal.loop-place-init
loop-place-init g c t is =
    let m = g.L.Language.meaning c.args.language.now in
    subst (λ k. MeasuredFrom m t k c.args.table.now) (sym c.len-place.ensures) (measured_none m (bytes_of c.args.tree.now) t is c.args.table.now)

pub node_at-requires : goal.node_at-requires
node_at-requires g c =
    let l = c.args.language.now in
    let m = g.L.Language.meaning l in
    let loop = c.loop-place in
    record {
      within = place_fits m (g.met.L.Language.lawful l) c.args.tree.now loop.place loop.table loop.invariant (omega arith) (omega (arith, c.len-place.ensures)) c.requires;
      ready = next_node m (g.met.L.Language.lawful l) c.args.tree.now loop.place loop.table loop.invariant (omega arith) (omega (arith, c.len-place.ensures)) c.in-Some.function c.in-Some.ensures c.requires;
    }

pub put-requires : goal.put-requires
put-requires g c =
    let l = c.args.language.now in
    place_fits (g.L.Language.meaning l) (g.met.L.Language.lawful l) c.args.tree.now c.loop-place.place c.loop-place.table c.loop-place.invariant (omega arith) (omega (arith, c.len-place.ensures)) c.requires

pub loop-place-preserved : goal.loop-place-preserved
loop-place-preserved g c =
    absurd (nth_missing (bytes_of c.args.tree.now) _ (omega (arith, c.len-place.ensures)) (sym c.in_default.ensures))

pub loop-place-preserved-in-Some : goal.loop-place-preserved-in-Some
loop-place-preserved-in-Some g c =
    let l = c.args.language.now in
    one_node_more (g.L.Language.meaning l) (g.met.L.Language.lawful l) c.args.tree.now c.loop-place.place c.loop-place.table c.loop-place.invariant (omega arith) (omega (arith, c.len-place.ensures)) c.in-Some.function c.in-Some.ensures c.node_at.result c.put.new.self c.node_at.ensures c.put.ensures

pub returns : goal.returns
returns g c t is j u here = c.loop-place.invariant t is j u (omega arith) here
