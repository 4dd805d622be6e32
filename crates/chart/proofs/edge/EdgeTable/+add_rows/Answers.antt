-- Each place of the first chain is chosen in turn.
use Rattle.std.proofs.Common.{◌<◌, true, false, length, get_or, None, sym, refl, ap, arith}
use Rattle.std.proofs.lemmas.Bool.{ltb-false}
use Rattle.tables.proofs.Few.{held_few}
use Rattle.chart.specs.Rows.{listed}
use Rattle.chart.proofs.Walks.{along_end, along_first, along_less, along_more, along_start, along_stop, along_within, chain_parts, filled_all, room_from, under_all}
use Rattle.chart.proofs.edge.EdgeTable.+add_rows.Goals as goal

pub loop-next-init : goal.loop-next-init
loop-next-init t c chains h =
    let next = c.args.index.now.next in
    let starts = c.args.starts.now in
    let some : 0 < length starts = omega (arith, ltb-false) in
    let p = chain_parts next starts chains some h in
    let table = listed c.args.self.now in
    let f = c.args.function in
    let arguments = c.args.arguments in
    let n = c.args.chosen in
    under_all next starts chains some h table table f arguments n _ _ refl
    (along_start next (get_or starts 0 None) table f arguments n p.first p.others (held_few c.args.self.now.edges) p.chain p.rises p.small)

pub returns-in_err-add_rows : goal.returns-in_err-add_rows
returns-in_err-add_rows t c chains h =
    let next = c.args.index.now.next in
    let starts = c.args.starts.now in
    let some : 0 < length starts = omega (arith, ltb-false) in
    let p = chain_parts next starts chains some h in
    let before = listed c.args.self.now in
    let now = listed c.loop-next.self in
    let after = listed c.add_rows.new.self in
    let f = c.args.function in
    let arguments = c.args.arguments in
    let n = c.args.chosen in
    let along = along_first next starts chains some h before now f arguments n _ _ c.in-Some.is (c.loop-next.invariant chains h) in
    rw c.from_residual.ensures
    (filled_all next starts chains some h before after f arguments n false
    (along_stop next before now f arguments n p.first p.others c.in-Some.place along after (c.in_err-add_rows.ensures p.others p.rest)))

pub after-next-requires : goal.after-next-requires
after-next-requires t c =
    let next = c.args.index.now.next in
    let starts = c.args.starts.now in
    let some : 0 < length starts = omega (arith, ltb-false) in
    let chains = c.requires.chains.0 in
    let h = c.requires.chains.1 in
    let p = chain_parts next starts chains some h in
    let before = listed c.args.self.now in
    let now = listed c.loop-next.self in
    let f = c.args.function in
    let arguments = c.args.arguments in
    let n = c.args.chosen in
    along_within next before now f arguments n p.first p.others c.in-Some.place
    (along_first next starts chains some h before now f arguments n _ _ c.in-Some.is (c.loop-next.invariant chains h))

pub loop-next-smaller : goal.loop-next-smaller
loop-next-smaller t c =
    let next = c.args.index.now.next in
    let starts = c.args.starts.now in
    let some : 0 < length starts = omega (arith, ltb-false) in
    let chains = c.requires.chains.0 in
    let h = c.requires.chains.1 in
    let p = chain_parts next starts chains some h in
    let before = listed c.args.self.now in
    let now = listed c.loop-next.self in
    let f = c.args.function in
    let arguments = c.args.arguments in
    let n = c.args.chosen in
    let less = along_less next before now f arguments n p.first p.others c.in-Some.place (along_first next starts chains some h before now f arguments n _ _ c.in-Some.is (c.loop-next.invariant chains h)) in
    omega (arith, less, ap room_from c.after-next.ensures, ap room_from c.in-Some.is)

pub loop-next-preserved : goal.loop-next-preserved
loop-next-preserved t c chains h =
    let next = c.args.index.now.next in
    let starts = c.args.starts.now in
    let some : 0 < length starts = omega (arith, ltb-false) in
    let p = chain_parts next starts chains some h in
    let before = listed c.args.self.now in
    let now = listed c.loop-next.self in
    let after = listed c.add_rows.new.self in
    let f = c.args.function in
    let arguments = c.args.arguments in
    let n = c.args.chosen in
    let along = along_first next starts chains some h before now f arguments n _ _ c.in-Some.is (c.loop-next.invariant chains h) in
    under_all next starts chains some h before after f arguments n _ _ (sym c.after-next.ensures)
    (along_more next before now f arguments n p.first p.others c.in-Some.place along after (c.in_ok-add_rows.ensures p.others p.rest))

pub returns : goal.returns
returns t c chains h =
    let next = c.args.index.now.next in
    let starts = c.args.starts.now in
    let some : 0 < length starts = omega (arith, ltb-false) in
    let p = chain_parts next starts chains some h in
    let before = listed c.args.self.now in
    let now = listed c.loop-next.self in
    let f = c.args.function in
    let arguments = c.args.arguments in
    let n = c.args.chosen in
    filled_all next starts chains some h before now f arguments n true
    (along_end next before now f arguments n p.first p.others
    (along_first next starts chains some h before now f arguments n _ _ c.in_default-next.is (c.loop-next.invariant chains h)))
