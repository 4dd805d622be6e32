-- Each symbol adds its size.
use Rattle.std.proofs.Common.{◌≡◌, Some, None, sym, arith}
use Rattle.std.specs.List.{slice_get}
use Rattle.grammar.specs.Linearization.{symbol_words}
use Rattle.grammar.specs.Questions.{sequence_answer, symbol_answer}
use Rattle.measure.specs.Sums.{or_no_symbols}
use Rattle.measure.proofs.Adding.{one_symbol_more}
use Rattle.grammar.proofs.Nth.{nth_missing}
use Rattle.measure.proofs.Asked.{answered_in_range, symbol_told, symbols_counted}
use Rattle.measure.proofs.Ruled.{whole_sequence}
use Rattle.measure.proofs.sums.ArgumentMeasures.sequence_size.Goals as goal
use Rattle.measure.proofs.sums.ArgumentMeasures.sequence_size.Goals.{in-Some, in_default}

pub symbol_size-requires : goal.symbol_size-requires
symbol_size-requires g c =
    let l = c.args.language.now in
    let m = g.L.Language.meaning l in
    let answer = symbol_answer m c.args.key.function c.args.key.forms c.args.constituent c.loop-index.index in
    answered_in_range m (g.met.L.Language.lawful l) c.args.key.function c.args.key.forms c.args.constituent c.loop-index.index c.in-Some.symbol (sym {b = answer} c.in-Some.ensures)

pub loop-index-preserved : goal.loop-index-preserved
loop-index-preserved g c =
    let m = g.L.Language.meaning c.args.language.now in
    let asked = sequence_answer m c.args.key.function c.args.key.forms c.args.constituent in
    let i = c.loop-index.index in
    elim c.match-symbol.branch [
      | in-Some w ↦
          let x = w.in-Some.symbol in
          let there : slice_get (or_no_symbols asked) i ≡ Some x = symbol_told asked i (Some x) w.in-Some.ensures in
          let size = w.symbol_size.ensures in
          rw w.size-is (rw w.plus-size.ensures record {
            words = omega (arith, size.small.0, c.loop-index.invariant.words);
            bytes = omega (arith, size.small.1, c.loop-index.invariant.bytes);
            sum = λ all same. one_symbol_more (symbol_words m all) (or_no_symbols asked) i x c.loop-index.size w.symbol_size.result there (c.loop-index.invariant.sum all same) (size.size all same);
          })
      | in_default w ↦
          let none : slice_get (or_no_symbols asked) i ≡ None = symbol_told asked i None w.in_default.ensures in
          let long = symbols_counted asked c.sequence_length-count.result c.unwrap_or-index-end.result c.sequence_length-count.ensures c.unwrap_or-index-end.ensures in
          absurd (nth_missing (or_no_symbols asked) i (omega arith) none)
    ]

pub returns : goal.returns
returns g c all same =
    let m = g.L.Language.meaning c.args.language.now in
    let asked = sequence_answer m c.args.key.function c.args.key.forms c.args.constituent in
    let long = symbols_counted asked c.sequence_length-count.result c.unwrap_or-index-end.result c.sequence_length-count.ensures c.unwrap_or-index-end.ensures in
    whole_sequence m all c.args.key.function c.args.key.forms c.args.constituent c.loop-index.index c.loop-index.size (c.loop-index.invariant.sum all same) (omega arith)
