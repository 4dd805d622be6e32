-- The gap and each byte of the word are put down, since both have room.
use Rattle.std.proofs.Common.{ℕ, List, Some, None, refl, subst, arith}
use Rattle.std.proofs.lemmas.List.{take_all}
use Rattle.writer.specs.PutDown.{gap, Grown}
use Rattle.writer.proofs.Growth.{grown_none, grown_on}
use Rattle.linearizer.specs.Frames.{spelling}
use Rattle.grammar.proofs.Nth.{nth_missing}
use Rattle.linearizer.proofs.Spelled.{grown_byte, grown_gap, byte_told, word_long}
use Rattle.linearizer.proofs.words.write_word.Goals as goal
use Rattle.linearizer.proofs.words.write_word.Goals.{in-Some, in_default}

pub loop-index-init : goal.loop-index-init
loop-index-init g c = grown_none _ _ _ refl refl refl refl

pub loop-index-preserved : goal.loop-index-preserved
loop-index-preserved g c =
    let m = g.L.Language.meaning c.args.language.now in
    let w = spelling m c.args.word in
    let i = c.loop-index.index in
    elim c.match-word_byte.branch [
      | in-Some here ↦
          let told = byte_told m c.args.word i (Some here.in-Some.byte) here.in-Some.ensures in
          let room = (grown_gap w c.begin_word.result c.requires c.begin_word.ensures).1 in
          rw here.writer-is (grown_byte w i here.in-Some.byte here.put.result told room c.loop-index.invariant here.put.ensures)
      | in_default here ↦
          let none = byte_told m c.args.word i None here.in_default.ensures in
          let long = word_long m c.args.word c.word_length.result c.unwrap_or-index-end.result c.word_length.ensures c.unwrap_or-index-end.ensures in
          absurd (nth_missing w i (omega arith) none)
    ]

pub returns : goal.returns
returns g c =
    let m = g.L.Language.meaning c.args.language.now in
    let w = spelling m c.args.word in
    let long = word_long m c.args.word c.word_length.result c.unwrap_or-index-end.result c.word_length.ensures c.unwrap_or-index-end.ensures in
    let all = take_all c.loop-index.index w (omega arith) in
    let begun = (grown_gap w c.begin_word.result c.requires c.begin_word.ensures).0 in
    let P : List ℕ → Type 0 = λ bytes. Grown bytes c.begin_word.new.self.started c.begin_word.new.self c.loop-index.writer in
    grown_on (gap c.args.writer.now) w begun (subst P all c.loop-index.invariant)
