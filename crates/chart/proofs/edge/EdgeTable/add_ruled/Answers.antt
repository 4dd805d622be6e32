-- Without a rule there is no edge.
use Rattle.std.proofs.Common.{true, Some, sym, ap, ◌∙◌, subst}
use Rattle.chart.specs.Rows.{Filled, listed}
use Rattle.tables.proofs.Few.{held_few}
use Rattle.chart.proofs.Filling.{filled_none}
use Rattle.chart.proofs.Forming.{missing_edges}
use Rattle.chart.proofs.edge.EdgeTable.add_ruled.Goals as goal

pub returns-in-Missing : goal.returns-in-Missing
returns-in-Missing g c chains ks chained key =
    let table = c.args.self.now in
    let none = missing_edges (g.L.Language.meaning c.args.language.now) c.args.key.function c.args.key.forms ks chains key (ap Some (sym c.in-Missing.is) ∙ c.in-Some.ensures) in
    subst (λ es. Filled (listed table) es true (listed table)) (sym none) (filled_none (listed table) (held_few table.edges))
