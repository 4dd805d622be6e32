-- The values that a table holds, in the order of their places.
use Rattle.std.specs.Prelude.{ℕ, List, take}
use Rattle.tables.specs.declared.Table.{Table}

abbrev pub held : {A : Type 0} {n : ℕ} → Table A n → List A
held t = take t.count t.places
