-- The table has the functions of the numbers so far.
use Rattle.grammar.proofs.Takes.{Taken}
use Rattle.grammar.proofs.signature.SignatureTable.of.Given as goal

abbrev pub invariant-loop-number : goal.invariant-loop-number
invariant-loop-number g l = Taken (g.L.Language.meaning l.language).signature l.number l.table
