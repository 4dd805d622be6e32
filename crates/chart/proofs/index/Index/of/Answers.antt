-- Each item is put in front of the chain of its category and form.
use Rattle.std.proofs.Common.{◌≡◌, suc, ◌+◌, ◌-◌, ◌*◌, get_or, drop, set, replicate, Some, None, sym, refl, ◌∙◌, subst, arith, length-set}
use Rattle.std.proofs.lemmas.List.{drop_all}
use Rattle.grammar.proofs.Nth.{all_nth, drop_nth}
use Rattle.chart.specs.Index.{InBounds}
use Rattle.chart.specs.Places.{held}
use Rattle.chart.proofs.Chains.{Chained, chained_more, none_chained}
use Rattle.tables.proofs.Few.{held_few}
use Rattle.chart.proofs.index.Index.of.Goals as goal

pub loop-place-init : goal.loop-place-init
loop-place-init c =
    let xs = held c.args.items.now in
    let none = drop_all c.len-place.result xs (omega (arith, c.len-place.ensures)) in
    (refl, refl, subst (Chained (replicate 128 None) (replicate 512 None) c.len-place.result) (sym none) (none_chained c.len-place.result))

pub loop-place-preserved-in-Some : goal.loop-place-preserved-in-Some
loop-place-preserved-in-Some c =
    let xs = held c.args.items.now in
    let p = c.loop-place.place in
    let heads = c.loop-place.heads in
    let next = c.loop-place.next in
    let x = c.in-Some.item in
    let at = sym c.in-Some.ensures in
    let bounds = all_nth InBounds xs (p - 1) x c.requires at in
    let on : p ≡ suc (p - 1) = omega arith in
    let so_far = subst (λ k. Chained heads next k (drop k xs)) on c.loop-place.invariant.2 in
    let few = held_few c.args.items.now.items in
    let more = chained_more heads next (p - 1) x (drop (suc (p - 1)) xs) c.loop-place.invariant.0 c.loop-place.invariant.1 (omega (arith, c.len-place.ensures, few)) bounds.0 bounds.1 so_far in
    let there = subst (Chained (set heads (8 * x.category + x.form) (Some (p - 1))) (set next (p - 1) (get_or heads (8 * x.category + x.form) None)) (p - 1)) (sym (drop_nth xs (p - 1) x at)) more in
    (length-set heads _ _ ∙ c.loop-place.invariant.0, length-set next _ _ ∙ c.loop-place.invariant.1, subst (λ s. Chained (set heads s (Some (p - 1))) (set next (p - 1) (get_or heads s None)) (p - 1) (drop (p - 1) xs)) (sym c.slot-at.ensures) there)
