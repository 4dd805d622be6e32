-- The rows over the places of the first chain so far are listed.
use Rattle.std.proofs.Common.{ℕ, List, length}
use Rattle.chart.specs.Rows.{Chains, listed}
use Rattle.chart.proofs.Walks.{Under, room_from}
use Rattle.chart.proofs.edge.EdgeTable.+add_rows.Given as goal

abbrev pub decreases-add_rows : goal.decreases-add_rows
decreases-add_rows l = length l.starts.now

abbrev pub invariant-loop-next : goal.invariant-loop-next
invariant-loop-next l =
    (chains : List (List ℕ)) → Chains l.index.next l.starts chains → Under l.index.next l.next (listed l.initial.self) (listed l.self) l.function l.arguments l.chosen chains

abbrev pub decreases-loop-next : goal.decreases-loop-next
decreases-loop-next l = room_from l.next
