-- The row of the arguments is the node's, and the rule is the one for their forms.
use Rattle.measure.proofs.Nodes.{ruled_node, silent_node, small_arguments}
use Rattle.measure.proofs.node.node_at.Goals as goal

pub invariant_of-arguments : goal.invariant_of-arguments
invariant_of-arguments g c =
    let l = c.args.language.now in
    let ready = c.requires.ready in
    record { small = small_arguments (g.L.Language.meaning l) (g.met.L.Language.lawful l) ready.0 c.args.place c.args.function ready.1 c.args.table.now ready.2 c.in-Some.arguments c.in-Some.ensures c.row_at-row.result c.row_at-row.ensures c.in-Ok.measures c.in-Ok.is }

pub returns-in-Err : goal.returns-in-Err
returns-in-Err g c t ts at =
    let l = c.args.language.now in
    silent_node (g.L.Language.meaning l) (g.met.L.Language.lawful l) t c.args.place c.args.function ts c.args.table.now at c.in-Some.arguments c.in-Some.ensures c.row_at-row.result c.row_at-row.ensures c.in-Err.muteness c.in-Err.is

pub returns-in-Ok : goal.returns-in-Ok
returns-in-Ok g c t ts at =
    let l = c.args.language.now in
    ruled_node (g.L.Language.meaning l) (g.met.L.Language.lawful l) t c.args.place c.args.function ts c.args.table.now at c.in-Some.arguments c.in-Some.ensures c.row_at-row.result c.row_at-row.ensures c.in-Ok.measures c.in-Ok.is c.forms-forms.result c.by_rule.result c.ok_or.result c.forms-forms.ensures c.by_rule.ensures c.ok_or.ensures.value
