-- The edge is put behind those that are listed, where it has a place.
use Rattle.std.proofs.Common.{Some, None}
use Rattle.tables.proofs.Few.{held_few}
use Rattle.chart.specs.Rows.{listed}
use Rattle.chart.proofs.Filling.{filled_one}
use Rattle.chart.proofs.edge.EdgeTable.push.Goals as goal

pub returns-in_err-push : goal.returns-in_err-push
returns-in_err-push c = rw c.from_residual.ensures
    (filled_one (listed c.args.self.now) c.args.edge None _ (held_few c.args.self.now.edges) c.in_err-push.ensures.place c.in_err-push.ensures.put)

pub returns : goal.returns
returns c = filled_one (listed c.args.self.now) c.args.edge (Some c.in_ok-push.field-0) _ (held_few c.args.self.now.edges) c.in_ok-push.ensures.place c.in_ok-push.ensures.put
