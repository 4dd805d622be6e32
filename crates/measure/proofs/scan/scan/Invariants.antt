-- Every node from the place on is measured.
use Rattle.grammar.specs.Trees.{Tree}
use Rattle.tree.specs.Codes.{IsTree}
use Rattle.tree.specs.Read.{bytes_of}
use Rattle.measure.specs.Measured.{MeasuredFrom}
use Rattle.measure.proofs.scan.scan.Given as goal

abbrev pub invariant-loop-place : goal.invariant-loop-place
invariant-loop-place g l =
    (t : Tree) → IsTree (g.L.Language.meaning l.language).signature (bytes_of l.tree) t → MeasuredFrom (g.L.Language.meaning l.language) t l.place l.table
