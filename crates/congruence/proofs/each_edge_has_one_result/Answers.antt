-- The rule of an edge makes one item.
use Rattle.congruence.proofs.Levels.{each_edge_has_one_result}
use Rattle.congruence.proofs.each_edge_has_one_result.Goals as goal

pub returns : goal.returns
returns c = each_edge_has_one_result
