-- Each number has its function, and by the law of a language each function has its place.
use Rattle.std.proofs.Common.{arith}
use Rattle.grammar.proofs.Takes.{taken_all, taken_more, function_there}
use Rattle.grammar.proofs.signature.SignatureTable.of.Goals as goal
use Rattle.grammar.proofs.signature.SignatureTable.of.Goals.{in-Some, in_default}

pub loop-number-preserved : goal.loop-number-preserved
loop-number-preserved g c =
    let l = c.args.language.now in
    let s = (g.L.Language.meaning l).signature in
    let few = (g.met.L.Language.lawful l).signature_lawful.function_range in
    let n = c.loop-number.number in
    elim c.match-function_type.branch [
      | in-Some w ↦
          let put = w.add.ensures in
          rw w.table-is
          (taken_more s n c.loop-number.table w.add.new.self w.in-Some.function w.add.result few (omega arith) c.loop-number.invariant w.in-Some.ensures put.test put.functions put.categories put.start)
      | in_default w ↦ absurd (function_there s n (omega arith) w.in_default.ensures)
    ]

pub returns : goal.returns
returns g c =
    taken_all (g.L.Language.meaning c.args.language.now).signature c.loop-number.number c.loop-number.table c.loop-number.invariant (omega arith)
