-- The words written and those that the frames owe are all words of the tree, and each turn leaves less to the frames.
use Rattle.std.proofs.Common.{◌≡◌}
use Rattle.stack.specs.Held.{held, room, lender}
use Rattle.linearizer.proofs.Stacked.{potential}
use Rattle.linearizer.proofs.Turns.{Underway, symbols_left}
use Rattle.linearizer.proofs.measured.MeasuredTree.write.Given as goal

abbrev pub invariant-loop-symbol : goal.invariant-loop-symbol
invariant-loop-symbol g l = record {
  underway : Underway (g.L.Language.meaning l.self.language.now) l.self.tree.now l.initial.writer (held l.frames) l.frame l.writer;
  room : room l.frames ≡ 5;
  cells : lender l.frames ≡ lender l.initial.frames;
  page : l.writer.part.ghost_name ≡ l.initial.writer.part.ghost_name;
}

abbrev pub decreases-loop-symbol : goal.decreases-loop-symbol
decreases-loop-symbol g l = potential (symbols_left (g.L.Language.meaning l.self.language.now) l.self.tree.now l.self.table.now) (held l.frames) l.frame
