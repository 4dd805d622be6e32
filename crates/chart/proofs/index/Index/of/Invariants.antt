-- The chains are those of the items from the place on.
use Rattle.std.proofs.Common.{◌≡◌, length, drop}
use Rattle.chart.specs.Places.{held}
use Rattle.chart.proofs.Chains.{Chained}
use Rattle.chart.proofs.index.Index.of.Given as goal

abbrev pub invariant-loop-place : goal.invariant-loop-place
invariant-loop-place l = (length l.heads ≡ 128) × (length l.next ≡ 512) × Chained l.heads l.next l.place (drop l.place (held l.items))
