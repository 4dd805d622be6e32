-- The first place of the item, or none.
use Rattle.std.proofs.Common.{◌≡◌, rules, tests}
use Rattle.std.proofs.lemmas.Iterator.{IsFirst-from_position, YieldsList-from_slice}
use Rattle.chart.specs.Places.{held}
use Rattle.chart.proofs.Holding.{found_at}
use Rattle.chart.proofs.table.ItemTable.find.Goals as goal

pub returns : goal.returns
returns c =
    let xs = held c.args.self.now in
    let x = c.args.item.now in
    found_at xs x c.position.result
    (IsFirst-from_position _ _ _ (λ y. y ≡ x) (λ y. y ≡ x → ⊥) c.position.ensures.ran (YieldsList-from_slice xs (cc)) (λ y q k. search (rules, tests)) (λ y q k. search (rules, tests)))
