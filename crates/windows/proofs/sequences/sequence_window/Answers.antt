-- Each symbol is added at the end of the string; what cannot be added makes the whole one that does not occur.
use Rattle.std.proofs.Common.{◌≡◌, Some, None, sym, ap, ◌∙◌, subst, arith}
use Rattle.std.specs.List.{slice_get}
use Rattle.std.proofs.lemmas.List.{take_all}
use Rattle.grammar.proofs.Nth.{nth_missing}
use Rattle.grammar.specs.Questions.{sequence_answer}
use Rattle.congruence.specs.NodeItems.{IsWindowOf, put_together, sequence_string, symbol_string}
use Rattle.measure.specs.Sums.{or_no_symbols}
use Rattle.measure.proofs.Asked.{symbol_count, symbol_there}
use Rattle.phrase.specs.Spelled.{words_of}
use Rattle.windows.specs.Strings.{own_string, phrase_of, words_at}
use Rattle.windows.proofs.Symbols.{answered_named, no_symbols, symbol_more, symbol_outside}
use Rattle.windows.proofs.sequences.sequence_window.Goals as goal
use Rattle.windows.proofs.sequences.sequence_window.Goals.{in-Some-symbol+in-Some-push_symbol, in_default-symbol, in-Some+else-loop-index-test, in_default}

pub push_symbol-requires : goal.push_symbol-requires
push_symbol-requires g c =
    let l = c.args.language.now in
    answered_named (g.L.Language.meaning l) (g.met.L.Language.lawful l) c.args.key.function c.args.key.forms c.args.constituent c.loop-index.index c.in-Some-symbol.symbol (sym c.in-Some-symbol.ensures)

pub returns-in_default-push_symbol : goal.returns-in_default-push_symbol
returns-in_default-push_symbol g c items same =
    let m = g.L.Language.meaning c.args.language.now in
    let phrase = words_of c.args.phrase.now in
    let asked = sequence_answer m c.args.key.function c.args.key.forms c.args.constituent in
    let i = c.loop-index.index in
    let x = c.in-Some-symbol.symbol in
    let there : slice_get (or_no_symbols asked) i ≡ Some x = sym (symbol_there asked i) ∙ sym c.in-Some-symbol.ensures in
    (symbol_outside m phrase items (or_no_symbols asked) i x there
    (subst (λ o. IsWindowOf phrase (put_together o (symbol_string m phrase items x)) None) (c.loop-index.invariant.1 items same)
    (subst (λ p. IsWindowOf (words_of p) (put_together (own_string c.loop-index.places) (symbol_string m (words_of p) items x)) None) c.loop-index.invariant.0 (c.in_default-push_symbol.ensures.added items same))))

pub loop-index-preserved : goal.loop-index-preserved
loop-index-preserved g c =
    let m = g.L.Language.meaning c.args.language.now in
    let phrase = words_of c.args.phrase.now in
    let asked = sequence_answer m c.args.key.function c.args.key.forms c.args.constituent in
    let i = c.loop-index.index in
    elim c.match-symbol.branch [
      | in-Some-symbol+in-Some-push_symbol w ↦
          let x = w.in-Some-symbol.symbol in
          let there : slice_get (or_no_symbols asked) i ≡ Some x = sym (symbol_there asked i) ∙ sym w.in-Some-symbol.ensures in (
            ap (λ p. p.phrase.now) w.places-is ∙ ap (λ p. p.now) w.in-Some-push_symbol.ensures.kept ∙ c.loop-index.invariant.0,
            λ items same.
                ap own_string w.places-is
                ∙ w.in-Some-push_symbol.ensures.added items same
                ∙ ap (λ p. put_together (own_string c.loop-index.places) (symbol_string m (words_of p) items x)) c.loop-index.invariant.0
                ∙ ap (λ o. put_together o (symbol_string m phrase items x)) (c.loop-index.invariant.1 items same)
                ∙ sym (symbol_more m phrase items (or_no_symbols asked) i x there),
          )
      | in_default-symbol w ↦
          let none : slice_get (or_no_symbols asked) i ≡ None = sym (symbol_there asked i) ∙ sym w.in_default-symbol.ensures in
          absurd (nth_missing (or_no_symbols asked) i (omega (arith, symbol_count asked c.in-Some.count (sym c.in-Some.ensures))) none)
    ]

pub returns : goal.returns
returns g c items same =
    let m = g.L.Language.meaning c.args.language.now in
    let phrase = words_of c.args.phrase.now in
    let asked = sequence_answer m c.args.key.function c.args.key.forms c.args.constituent in
    let places = c.match-sequence_length.places in
    let whole : (places.phrase.now ≡ c.args.phrase.now) × (own_string places ≡ sequence_string m phrase items (or_no_symbols asked)) =
    elim c.match-sequence_length.branch [
      | in-Some+else-loop-index-test w ↦ (
        ap (λ p. p.phrase.now) w.places-is ∙ w.loop-index.invariant.0,
        ap own_string w.places-is
            ∙ w.loop-index.invariant.1 items same
            ∙ ap (sequence_string m phrase items) (take_all w.loop-index.index (or_no_symbols asked) (omega (arith, symbol_count asked w.in-Some.count (sym w.in-Some.ensures)))),
      )
      | in_default w ↦ (
        ap (λ p. p.phrase.now) w.places-is ∙ c.new-places.ensures.of,
        ap own_string w.places-is
            ∙ ap (words_at (phrase_of c.new-places.result)) c.new-places.ensures.empty
            ∙ ap (sequence_string m phrase items) (sym (no_symbols asked (sym w.in_default.ensures))),
      )
    ] in
    subst (λ p. IsWindowOf (words_of p) (sequence_string m phrase items (or_no_symbols asked)) c.find.result) whole.0
    (subst (λ o. IsWindowOf (phrase_of places) o c.find.result) whole.1 c.find.ensures)
