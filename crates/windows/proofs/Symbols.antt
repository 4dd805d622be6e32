-- Symbols of a rule's sequence, one after the other: what each puts down, and that each names something.
use Rattle.std.proofs.Common.{◌≡◌, ℕ, zero, suc, ◌+◌, ◌<◌, List, [], ◌∷◌, ◌++◌, length, get_or, take, drop, Some, None, Option, sym, refl, ap, ◌∙◌, subst, arith}
use Rattle.std.specs.List.{slice_get}
use Rattle.std.specs.Option.{option_map}
use Rattle.std.proofs.lemmas.List.{take-append-drop, take_more}
use Rattle.std.proofs.lemmas.Option.{slice_get-get_or}
use Rattle.grammar.specs.declared.symbol.Symbol.{Symbol}
use Rattle.grammar.specs.declared.symbol.Symbol.TheVariants.{Word, Reference}
use Rattle.grammar.specs.declared.symbol.Window.{Window}
use Rattle.grammar.specs.Charts.{Item}
use Rattle.grammar.specs.Languages.{Lawful, Meaning, Words}
use Rattle.grammar.specs.Questions.{sequence_answer, symbol_answer}
use Rattle.grammar.proofs.Nth.{nth_below}
use Rattle.grammar.proofs.Optional.{none_some}
use Rattle.congruence.specs.NodeItems.{IsWindowOf, nothing_shown, put_together, sequence_string, symbol_string}
use Rattle.congruence.proofs.Strings.{occurs_back}
use Rattle.measure.specs.Sums.{or_no_symbols}
use Rattle.measure.proofs.Asked.{answered_at, answered_in_range, answered_lawful, answered_sequence}
use Rattle.phrase.specs.Places.{PlaceOf}
use Rattle.windows.specs.Sequences.{Named, argument_windows, item_windows, window_of}
use Rattle.windows.specs.Strings.{one_word, word_at}
use Rattle.windows.proofs.Standing.{word_there}
use Rattle.windows.proofs.Together.{outside_more, sequence_append, together_empty}

-- a symbol that is answered names something
pub answered_named : (m : Meaning) → Lawful m → (f : ℕ) (forms : List ℕ) (k i : ℕ) (x : Symbol) → symbol_answer m f forms k i ≡ Some x → Named m x
answered_named m law f forms k i (Reference a n) h = answered_in_range m law f forms k i (Reference a n) h
answered_named m law f forms k i (Word n) h =
    let there = answered_at (sequence_answer m f forms k) i (Word n) h in
    let of = answered_sequence m f forms k there.0 there.1 in
    let rule = law.rules_lawful f of.0 of.1 of.2 in
    answered_lawful m law f rule.0 rule.1 forms k i (Word n) h

pub no_symbols : (o : Option (List Symbol)) → option_map length o ≡ None → or_no_symbols o ≡ []
no_symbols None h = refl
no_symbols (Some xs) h = absurd (none_some (length xs) (sym h))

-- a word of the language that stands in the phrase is the word at that place
pub word_found : (phrase words : Words) (n i : ℕ) → PlaceOf phrase (slice_get words n) (Some i) → word_at phrase i ≡ Some (get_or words n [] ∷ [])
word_found phrase words n i p =
    let same : get_or words n [] ≡ p.0 = cc (slice_get-get_or words n [] (nth_below words n p.0 p.1), p.1) in
    ap (option_map one_word) p.2.there ∙ ap (λ w. Some (w ∷ [])) (sym same)

-- and one that stands nowhere is in no string that occurs
pub word_nowhere : (phrase words : Words) (n : ℕ) → n < length words → PlaceOf phrase (slice_get words n) None → (before : Option Words) → IsWindowOf phrase (put_together before (Some (get_or words n [] ∷ []))) None
word_nowhere phrase words n lt p None = refl
word_nowhere phrase words n lt p (Some s) = λ j o.
    p (get_or words n []) (slice_get-get_or words n [] lt) (j + length s) (word_there phrase (get_or words n []) (j + length s) (occurs_back phrase s (get_or words n [] ∷ []) j o))

-- three arguments, each at its number, and four windows, each at its constituent's
at_argument : (items : List Item) (a : ℕ) (d : List (Option Window)) → a < 3 → get_or (argument_windows items) a d ≡ item_windows (get_or items a nothing_shown)
at_argument items zero d lt = refl
at_argument items (suc zero) d lt = refl
at_argument items (suc (suc zero)) d lt = refl
at_argument items (suc (suc (suc a))) d lt = absurd (omega arith)

at_window : (i : Item) (k : ℕ) (d : Option Window) → k < 4 → get_or (item_windows i) k d ≡ window_of i k
at_window i zero d lt = refl
at_window i (suc zero) d lt = refl
at_window i (suc (suc zero)) d lt = refl
at_window i (suc (suc (suc zero))) d lt = refl
at_window i (suc (suc (suc (suc k)))) d lt = absurd (omega arith)

pub argument_window : (items : List Item) (arguments : List (List (Option Window))) (a k : ℕ) (d : List (Option Window)) (e : Option Window) → a < 3 → k < 4 → arguments ≡ argument_windows items → get_or (get_or arguments a d) k e ≡ window_of (get_or items a nothing_shown) k
argument_window items arguments a k d e few four same =
    ap (λ rows. get_or (get_or rows a d) k e) same ∙ ap (λ row. get_or row k e) (at_argument items a d few) ∙ at_window (get_or items a nothing_shown) k e four

module _ (m : Meaning) (phrase : Words) (items : List Item) (xs : List Symbol) (i : ℕ) (x : Symbol) (there : slice_get xs i ≡ Some x) where
  pub symbol_more : sequence_string m phrase items (take (i + 1) xs) ≡ put_together (sequence_string m phrase items (take i xs)) (symbol_string m phrase items x)
  symbol_more =
      let lt = nth_below xs i x there in
      let same : get_or xs i x ≡ x = cc (slice_get-get_or xs i x lt) in
      ap (sequence_string m phrase items) (take_more xs i x lt)
      ∙ ap (λ y. sequence_string m phrase items (take i xs ++ y ∷ [])) same
      ∙ sequence_append m phrase items (take i xs) (x ∷ [])
      ∙ ap (put_together (sequence_string m phrase items (take i xs))) (together_empty (symbol_string m phrase items x))

  -- what does not occur with one symbol more does not occur with all of them
  pub symbol_outside : IsWindowOf phrase (put_together (sequence_string m phrase items (take i xs)) (symbol_string m phrase items x)) None → IsWindowOf phrase (sequence_string m phrase items xs) None
  symbol_outside out =
      let front = take (i + 1) xs in
      let rest = drop (i + 1) xs in
      subst (λ o. IsWindowOf phrase o None) (sym (sequence_append m phrase items front rest) ∙ ap (sequence_string m phrase items) (take-append-drop (i + 1) xs))
      (outside_more phrase (sequence_string m phrase items front) (sequence_string m phrase items rest) (subst (λ o. IsWindowOf phrase o None) (sym symbol_more) out))
