-- Looking for a word from the front: what is known of the first place that is found, or of all places where none is.
use Rattle.std.proofs.Common.{◌≡◌, ℕ, ◌<◌, ◌≤◌, Bool, true, false, List, map, length, get_or, Some, None, Decides, Option, sym, refl, ap, ◌∙◌, subst, arith, Bor}
use Rattle.std.specs.Bool.{MatchBool}
use Rattle.std.specs.List.{slice_get, AllWithin, HoldsAt}
use Rattle.std.specs.Option.{MatchOption}
use Rattle.std.proofs.lemmas.Option.{slice_get-get_or}
use Rattle.std.proofs.lemmas.List.{length-map}
use Rattle.grammar.specs.Languages.{Meaning, Spelling, Words}
use Rattle.grammar.specs.Lists.{Holds}
use Rattle.std.specs.Option.{option_map}
use Rattle.grammar.specs.Unknown.{FirstUnknown}
use Rattle.grammar.proofs.Nth.{holds_nth, nth_below, nth_holds, nth_map, nth_missing}
use Rattle.grammar.proofs.Optional.{none_some}
use Rattle.phrase.specs.Places.{PlaceOf, UnknownAt}
use Rattle.phrase.specs.Spelled.{bytes_of}
use Rattle.phrase.proofs.Bytewise.{decides_no, decides_yes}

-- the word stands at a place
abbrev pub Stands : Words → Option Spelling → ℕ → Type 0
Stands ws o k = (w : Spelling) × (o ≡ Some w) × (slice_get ws k ≡ Some w)

pub any_decides : (ws : Words) (w : Spelling) (n : ℕ) (r : Bool) → n ≡ length ws → MatchBool r ((k : ℕ) × (k < n) × (slice_get ws k ≡ Some w)) ((k : ℕ) → k < n → slice_get ws k ≡ Some w → ⊥) → Decides r (Holds ws w)
any_decides ws w n true whole found = decides_yes _ (nth_holds ws found.0 w found.2)
any_decides ws w n false whole none =
    decides_no _ (λ held. let p = holds_nth ws w held in none p.0 (omega (arith, nth_below ws p.0 w p.1)) p.1)

pub first_place : (ws : Words) (o : Option Spelling) (n : ℕ) (r : Option ℕ) → n ≡ length ws → MatchOption r ((k : ℕ) → 0 ≤ k → k < n → Stands ws o k → ⊥) (λ i. (0 ≤ i) × (i < n) × Stands ws o i × ((k : ℕ) → 0 ≤ k → k < i → Stands ws o k → ⊥)) → PlaceOf ws o r
first_place ws o n None whole none = λ w e j there. none j (omega arith) (omega (arith, nth_below ws j w there)) (w, e, there)
first_place ws o n (Some i) whole found =
    let w = found.2.0 in
    (w, found.2.1, record { there = found.2.2; none_before = λ j lt there. found.3 j (omega arith) lt (w, found.2.1, there) })

module _ (m : Meaning) (held : List (Bor (List ℕ))) where
  abbrev pub Known : Bor (List ℕ) → Type 0
  Known b = Holds m.words b.now

  known_at : (i : ℕ) (w : Spelling) (o : Option (Bor (List ℕ))) → slice_get held i ≡ o → ((d : Bor (List ℕ)) → Known (get_or held i d)) → slice_get (map bytes_of held) i ≡ Some w → Holds m.words w
  known_at i w None at known there = absurd (none_some w (ap (option_map bytes_of) (sym at) ∙ sym (nth_map bytes_of held i) ∙ there))
  known_at i w (Some b) at known there =
      let told : Some b.now ≡ Some w = ap (option_map bytes_of) (sym at) ∙ sym (nth_map bytes_of held i) ∙ there in
      let here : get_or held i b ≡ b = cc (slice_get-get_or held i b (nth_below held i b at)) in
      subst (Holds m.words) (let same : b.now ≡ w = cc in same) (subst Known here (known b))

  known_below : (n : ℕ) → AllWithin Known held 0 n → (i : ℕ) (w : Spelling) → i < n → slice_get (map bytes_of held) i ≡ Some w → Holds m.words w
  known_below n all i w lt there = known_at i w (slice_get held i) refl (λ d. all i d (omega arith) lt) there

  unknown_at : (i : ℕ) (o : Option (Bor (List ℕ))) → slice_get held i ≡ o → i < length held → HoldsAt (λ b. Known b → ⊥) held i → AllWithin Known held 0 i → FirstUnknown m (map bytes_of held) i
  unknown_at i None at lt unknown before = absurd (nth_missing held i lt at)
  unknown_at i (Some b) at lt unknown before =
      let here : get_or held i b ≡ b = cc (slice_get-get_or held i b lt) in
      record {
        word = b.now;
        there = nth_map bytes_of held i ∙ ap (option_map bytes_of) at;
        unknown = subst (λ x. Known x → ⊥) here (unknown b);
        known_before = known_below i before;
      }

  pub first_unknown : (r : Option ℕ) → MatchOption r (AllWithin Known held 0 (length held)) (λ i. (i < length held) × HoldsAt (λ b. Known b → ⊥) held i × AllWithin Known held 0 i) → UnknownAt m (map bytes_of held) r
  first_unknown None all = λ i w there.
      known_below (length held) all i w (omega (arith, nth_below (map bytes_of held) i w there, length-map held bytes_of)) there
  first_unknown (Some i) found = unknown_at i (slice_get held i) refl found.0 found.1 found.2
