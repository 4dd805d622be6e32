-- What a stack holds, the cells that are lent to it, and who lent them. Assumes nothing.
use Rattle.std.specs.Borrow.{GName}
use Rattle.std.specs.Prelude.{ℕ, List, length, take}
use Rattle.stack.specs.declared.Stack.{Stack}

module _ {T : Type 0} where
  -- the values that the stack holds, the bottom one first
  abbrev pub held : Stack T → List T
  held s = take s.used s.cells.now

  -- what lies in all its cells, the free ones too
  abbrev pub lent : Stack T → List T
  lent s = s.cells.now

  -- the number of its cells
  abbrev pub room : Stack T → ℕ
  room s = length s.cells.now

  -- the ghost name of the slice that was lent to it: where this stays the same, the lender gets its cells back as the stack left them
  abbrev pub lender : Stack T → GName
  lender s = s.cells.ghost_name
