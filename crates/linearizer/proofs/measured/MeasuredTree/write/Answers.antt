-- Each turn writes a word, passes over a constituent without words, goes down to an argument, or up from one that is done.
use Rattle.std.proofs.Common.{◌≡◌, ◌≤◌, true, length, refl, ap, ◌∙◌, arith}
use Rattle.stack.specs.Held.{held}
use Rattle.linearizer.proofs.Stacked.{potential_pop}
use Rattle.linearizer.proofs.Turns.{ready_for, symbols_left, push_fits, next_small, less_further, less_down, told_small, underway_start, word_fits, underway_word, underway_past, level_small, underway_down, underway_up, underway_end}
use Rattle.linearizer.proofs.measured.MeasuredTree.write.Given.{Over}
use Rattle.linearizer.proofs.measured.MeasuredTree.write.Goals as goal

pub loop-symbol-init : goal.loop-symbol-init
loop-symbol-init g c =
    let tree = c.args.self.now in
    let law = g.met.L.Language.lawful tree.language.now in
    let ready = ready_for (g.L.Language.meaning tree.language.now) tree.tree.now tree.table.now c.args.writer.now tree.of tree.said c.requires.room in
    record {
      underway = underway_start law ready (held c.new-frames.result) c.start-frame.result c.new-frames.ensures.empty c.start-frame.ensures c.requires.fresh;
      room = ap length c.new-frames.ensures.same;
      cells = refl;
      page = refl;
    }

pub loop-symbol-smaller-then-pop : goal.loop-symbol-smaller-then-pop
loop-symbol-smaller-then-pop g c =
    let left = symbols_left (g.L.Language.meaning c.args.self.now.language.now) c.args.self.now.tree.now c.args.self.now.table.now in
    potential_pop left (held c.loop-symbol.frames) (held c.pop.new.self) c.loop-symbol.frame c.pop.new.place (c.pop.ensures.top c.if-pop.true)

pub loop-symbol-preserved-then-pop : goal.loop-symbol-preserved-then-pop
loop-symbol-preserved-then-pop g c =
    let tree = c.args.self.now in
    let law = g.met.L.Language.lawful tree.language.now in
    let ready = ready_for (g.L.Language.meaning tree.language.now) tree.tree.now tree.table.now c.args.writer.now tree.of tree.said c.requires.room in
    record {
      underway = underway_up law ready c.loop-symbol.invariant.underway c.in_default.ensures (held c.pop.new.self) c.pop.new.place (c.pop.ensures.top c.if-pop.true);
      room = ap length c.pop.ensures.same ∙ c.loop-symbol.invariant.room;
      cells = c.pop.ensures.owner ∙ c.loop-symbol.invariant.cells;
      page = c.loop-symbol.invariant.page;
    }

pub returns-in_default : goal.returns-in_default
returns-in_default g c =
    let tree = c.args.self.now in
    let law = g.met.L.Language.lawful tree.language.now in
    let ready = ready_for (g.L.Language.meaning tree.language.now) tree.tree.now tree.table.now c.args.writer.now tree.of tree.said c.requires.room in
    record {
      lender = c.loop-symbol.invariant.page;
      wrote = underway_end law ready c.loop-symbol.invariant.underway c.in_default.ensures (c.pop.ensures.empty c.if-pop.false);
    }

pub overflow_add-frame : goal.overflow_add-frame
overflow_add-frame g c =
    let law = g.met.L.Language.lawful c.args.self.now.language.now in
    omega (arith, next_small law c.args.self.now.tree.now c.args.self.now.table.now c.loop-symbol.frame c.in-Some.symbol c.in-Some.ensures)

pub write_word-requires : goal.write_word-requires
write_word-requires g c =
    let tree = c.args.self.now in
    let law = g.met.L.Language.lawful tree.language.now in
    let ready = ready_for (g.L.Language.meaning tree.language.now) tree.tree.now tree.table.now c.args.writer.now tree.of tree.said c.requires.room in
    word_fits law ready c.loop-symbol.invariant.underway c.in-Some.symbol c.in-Word.word c.in-Some.ensures c.in-Word.is

pub loop-symbol-smaller-in-Word : goal.loop-symbol-smaller-in-Word
loop-symbol-smaller-in-Word g c =
    let law = g.met.L.Language.lawful c.args.self.now.language.now in
    less_further law c.args.self.now.tree.now c.args.self.now.table.now c.loop-symbol.frame c.in-Some.symbol c.in-Some.ensures (held c.loop-symbol.frames)

pub loop-symbol-preserved-in-Word : goal.loop-symbol-preserved-in-Word
loop-symbol-preserved-in-Word g c =
    let tree = c.args.self.now in
    let law = g.met.L.Language.lawful tree.language.now in
    let ready = ready_for (g.L.Language.meaning tree.language.now) tree.tree.now tree.table.now c.args.writer.now tree.of tree.said c.requires.room in
    record {
      underway = underway_word law ready c.loop-symbol.invariant.underway c.in-Some.symbol c.in-Word.word c.in-Some.ensures c.in-Word.is c.write_word.ensures;
      room = c.loop-symbol.invariant.room;
      cells = c.loop-symbol.invariant.cells;
      page = c.write_word.ensures.lender ∙ c.loop-symbol.invariant.page;
    }

pub argument_place-place-requires : goal.argument_place-place-requires
argument_place-place-requires g c =
    let law = g.met.L.Language.lawful c.args.self.now.language.now in
    (told_small law c.args.self.now.tree.now c.args.self.now.table.now c.loop-symbol.frame c.in-Some.symbol c.in-Some.ensures c.in-Reference.argument c.in-Reference.constituent c.in-Reference.is).0

pub count_words-requires : goal.count_words-requires
count_words-requires g c =
    let law = g.met.L.Language.lawful c.args.self.now.language.now in
    (told_small law c.args.self.now.tree.now c.args.self.now.table.now c.loop-symbol.frame c.in-Some.symbol c.in-Some.ensures c.in-Reference.argument c.in-Reference.constituent c.in-Reference.is).1

-- the frame that waits finds room
few : (g : Over) (c : goal.After-start-frame-then-count_words-ne0 g) → length (held c.loop-symbol.frames) ≤ 4
few g c =
    let tree = c.args.self.now in
    let law = g.met.L.Language.lawful tree.language.now in
    let ready = ready_for (g.L.Language.meaning tree.language.now) tree.tree.now tree.table.now c.args.writer.now tree.of tree.said c.requires.room in
    level_small law ready c.loop-symbol.invariant.underway c.in-Some.symbol c.in-Reference.argument c.in-Reference.constituent c.argument_place-place.result c.in-Some.ensures c.in-Reference.is c.argument_place-place.ensures

pushed : (g : Over) (c : goal.After-start-frame-then-count_words-ne0 g) → c.push.result ≡ true
pushed g c = push_fits c.push.result _ _ c.push.ensures.full c.loop-symbol.invariant.room (few g c)

pub loop-symbol-smaller-then-count_words-ne0 : goal.loop-symbol-smaller-then-count_words-ne0
loop-symbol-smaller-then-count_words-ne0 g c =
    let law = g.met.L.Language.lawful c.args.self.now.language.now in
    less_down law c.args.self.now.tree.now c.args.self.now.table.now c.loop-symbol.frame c.in-Some.symbol c.in-Some.ensures (held c.loop-symbol.frames) (held c.push.new.self) c.start-frame-then-count_words-ne0.result (few g c) (c.push.ensures.put (pushed g c))

pub loop-symbol-preserved-then-count_words-ne0 : goal.loop-symbol-preserved-then-count_words-ne0
loop-symbol-preserved-then-count_words-ne0 g c =
    let tree = c.args.self.now in
    let law = g.met.L.Language.lawful tree.language.now in
    let ready = ready_for (g.L.Language.meaning tree.language.now) tree.tree.now tree.table.now c.args.writer.now tree.of tree.said c.requires.room in
    record {
      underway = underway_down law ready c.loop-symbol.invariant.underway c.in-Some.symbol c.in-Reference.argument c.in-Reference.constituent c.argument_place-place.result c.in-Some.ensures c.in-Reference.is c.argument_place-place.ensures (held c.push.new.self) c.start-frame-then-count_words-ne0.result (c.push.ensures.put (pushed g c)) c.start-frame-then-count_words-ne0.ensures;
      room = c.push.ensures.size ∙ c.loop-symbol.invariant.room;
      cells = c.push.ensures.owner ∙ c.loop-symbol.invariant.cells;
      page = c.loop-symbol.invariant.page;
    }

pub loop-symbol-smaller : goal.loop-symbol-smaller
loop-symbol-smaller g c =
    let law = g.met.L.Language.lawful c.args.self.now.language.now in
    less_further law c.args.self.now.tree.now c.args.self.now.table.now c.loop-symbol.frame c.in-Some.symbol c.in-Some.ensures (held c.loop-symbol.frames)

pub loop-symbol-preserved : goal.loop-symbol-preserved
loop-symbol-preserved g c =
    let tree = c.args.self.now in
    let law = g.met.L.Language.lawful tree.language.now in
    let ready = ready_for (g.L.Language.meaning tree.language.now) tree.tree.now tree.table.now c.args.writer.now tree.of tree.said c.requires.room in
    record {
      underway = underway_past law ready c.loop-symbol.invariant.underway c.in-Some.symbol c.in-Reference.argument c.in-Reference.constituent c.argument_place-place.result c.in-Some.ensures c.in-Reference.is c.argument_place-place.ensures c.count_words.result c.count_words.ensures c.if-count_words-ne0.false;
      room = c.loop-symbol.invariant.room;
      cells = c.loop-symbol.invariant.cells;
      page = c.loop-symbol.invariant.page;
    }
