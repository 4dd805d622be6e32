-- A table holds no more values than it has places.
use Rattle.std.proofs.Common.{ℕ, ◌≤◌, length, arith}
use Rattle.std.proofs.lemmas.List.{length-take}
use Rattle.tables.specs.declared.Table.{Table}
use Rattle.tables.specs.Held.{held}

pub held_few : {A : Type 0} {n : ℕ} (t : Table A n) → length (held t) ≤ n
held_few t = omega (arith, length-take t.count t.places, t.within)
