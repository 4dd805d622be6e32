-- Where a string of places stands: from a place on, the phrase has the same words.
use Rattle.std.proofs.Common.{Decides, Bool, true, false, ◌≡◌, ℕ, zero, suc, ◌+◌, ◌<◌, ◌≤◌, List, [], ◌∷◌, ◌++◌, length, get_or, take, drop, Some, None, Option, sym, refl, ap, ◌∙◌, subst, ⊎_elim, arith}
use Rattle.std.specs.Bool.{MatchBool}
use Rattle.std.specs.List.{slice_get, enumerate_from, AllWithin, HoldsAt}
use Rattle.std.specs.Option.{option_map}
use Rattle.std.proofs.lemmas.List.{drop_at, length-append, length-take-le, take-append-drop}
use Rattle.std.proofs.lemmas.List.FromFn.{get_or-enumerate_from, length-enumerate_from}
use Rattle.std.proofs.lemmas.Bool.{cases_lt}
use Rattle.std.proofs.lemmas.Option.{slice_get-get_or}
use Rattle.grammar.specs.Charts.{Occurs}
use Rattle.grammar.specs.Languages.{Spelling, Words}
use Rattle.grammar.proofs.Nth.{drop_nth, nth_below}
use Rattle.items.proofs.Windows.{inside}
use Rattle.congruence.specs.NodeItems.{IsWindowOf, put_together}
use Rattle.phrase.specs.Places.{SameAt}
use Rattle.phrase.proofs.Bytewise.{decides_no, decides_yes}
use Rattle.windows.specs.Strings.{SameFrom, one_word, words_at}
use Rattle.windows.proofs.Together.{one_word_each, parts_at}

-- an occurrence, by what is left of the phrase from its place on
abbrev From : Words → Words → ℕ → Type 0
From phrase s i = (back : Words) × (drop i phrase ≡ s ++ back) × (i ≤ length phrase)

from_occurs : (phrase s : Words) (i : ℕ) → From phrase s i → Occurs phrase s i
from_occurs phrase s i f =
    (take i phrase, f.0, sym (take-append-drop i phrase) ∙ ap (λ rest. take i phrase ++ rest) f.1, length-take-le i phrase f.2)

occurs_from : (phrase s : Words) (i : ℕ) → Occurs phrase s i → From phrase s i
occurs_from phrase s i o =
    (o.1, ap (drop i) o.2 ∙ drop_at o.0 (s ++ o.1) i o.3, omega (arith, ap length o.2, length-append o.0 (s ++ o.1), o.3))

nth_first : (phrase : Words) (i : ℕ) (w : Spelling) (rest : Words) → drop i phrase ≡ w ∷ rest → slice_get phrase i ≡ Some w
nth_first [] zero w rest e = let z : ◌≡◌ {A = ℕ} 0 1 = cc in absurd (omega arith)
nth_first [] (suc i) w rest e = let z : ◌≡◌ {A = ℕ} 0 1 = cc in absurd (omega arith)
nth_first (v ∷ phrase) zero w rest e = cc
nth_first (v ∷ phrase) (suc i) w rest e = nth_first phrase i w rest e

-- one word before a string that stands one place further on
word_before : (phrase : Words) (i : ℕ) (w : Spelling) (s : Words) → slice_get phrase i ≡ Some w → From phrase s (suc i) → From phrase (w ∷ s) i
word_before phrase i w s here f =
    (f.0, drop_nth phrase i w here ∙ ap (λ rest. w ∷ rest) f.1, omega (arith, f.2))

word_after : (phrase : Words) (i : ℕ) (w : Spelling) (s : Words) → From phrase (w ∷ s) i → (slice_get phrase i ≡ Some w) × From phrase s (suc i)
word_after phrase i w s f =
    let here = nth_first phrase i w (s ++ f.0) f.1 in
    let there = drop_nth phrase i w here in
    (here, (f.0, let rest : drop (suc i) phrase ≡ s ++ f.0 = cc (there, f.1) in rest, omega (arith, nth_below phrase i w here)))

module _ (phrase : Words) where
  -- where the phrase has the same words, the string is there and stands
  same_stands : (is : List ℕ) (i : ℕ) → i ≤ length phrase → SameFrom phrase is i → (s : Words) × (words_at phrase is ≡ Some s) × From phrase s i
  same_stands [] i le h = ([], refl, (drop i phrase, refl, le))
  same_stands (j ∷ is) i le h =
      let here : SameAt phrase i j = subst (λ k. SameAt phrase k j) (let e : i + 0 ≡ i = omega arith in e) (h.same 0 (omega arith)) in
      let later : SameFrom phrase is (suc i) = record { same = λ k lt. subst (λ n. SameAt phrase n (get_or is k 0)) (let e : i + suc k ≡ suc i + k = omega arith in e) (h.same (suc k) (omega arith)) } in
      let r = same_stands is (suc i) (omega (arith, nth_below phrase i here.0 here.1)) later in
      (here.0 ∷ r.0, ap (λ o. put_together (option_map one_word o) (words_at phrase is)) here.2 ∙ ap (put_together (Some (here.0 ∷ []))) r.1, word_before phrase i here.0 r.0 here.1 r.2)

  -- and where the string stands, the phrase has the same words
  stands_same_at : (is : List ℕ) (s : Words) (i : ℕ) → words_at phrase is ≡ Some s → From phrase s i → (k : ℕ) → k < length is → SameAt phrase (i + k) (get_or is k 0)
  stands_same_at [] s i e f k lt = absurd (omega arith)
  stands_same_at (j ∷ is) s i e f zero lt =
      let p = parts_at (slice_get phrase j) (words_at phrase is) s e in
      let here = word_after phrase i p.0 p.1 (subst (λ t. From phrase t i) p.4 f) in
      subst (λ n. SameAt phrase n j) (let q : i ≡ i + 0 = omega arith in q) (p.0, here.0, p.2)
  stands_same_at (j ∷ is) s i e f (suc k) lt =
      let p = parts_at (slice_get phrase j) (words_at phrase is) s e in
      let here = word_after phrase i p.0 p.1 (subst (λ t. From phrase t i) p.4 f) in
      subst (λ n. SameAt phrase n (get_or is k 0)) (let q : suc i + k ≡ i + suc k = omega arith in q) (stands_same_at is p.1 (suc i) p.3 here.1 k (omega arith))

  stands_same : (is : List ℕ) (s : Words) (i : ℕ) → words_at phrase is ≡ Some s → From phrase s i → SameFrom phrase is i
  stands_same is s i e f = record { same = stands_same_at is s i e f }

  -- the first place from which the phrase has the same words
  pub first_window : (is : List ℕ) (i : ℕ) → i ≤ length phrase → SameFrom phrase is i → ((j : ℕ) → j < i → SameFrom phrase is j → ⊥) → IsWindowOf phrase (words_at phrase is) (inside i (length is))
  first_window is i le here before =
      let p = same_stands is i le here in
      let least : (j : ℕ) → Occurs phrase p.0 j → i ≤ j = λ j o. ⊎_elim (λ lt. absurd (before j lt (stands_same is p.0 j p.1 (occurs_from phrase p.0 j o)))) (λ ge. ge) (cases_lt j i) in
      subst (λ o. IsWindowOf phrase o (inside i (length is))) (sym p.1) (from_occurs phrase p.0 i p.2, least, one_word_each phrase is p.0 p.1)

  pub no_window : (is : List ℕ) → ((j : ℕ) → j < length phrase + 1 → SameFrom phrase is j → ⊥) → IsWindowOf phrase (words_at phrase is) None
  no_window is none = by (words_at phrase is) refl
    where
      by : (o : Option Words) → words_at phrase is ≡ o → IsWindowOf phrase o None
      by None e = refl
      by (Some s) e = λ j o. let f = occurs_from phrase s j o in none j (omega (arith, f.2)) (stands_same is s j e f)

-- a word that occurs stands there
pub word_there : (phrase : Words) (w : Spelling) (i : ℕ) → Occurs phrase (w ∷ []) i → slice_get phrase i ≡ Some w
word_there phrase w i o = (word_after phrase i w [] (occurs_from phrase (w ∷ []) i o)).0

-- the words of a string and those from a place on, compared one by one
module _ (phrase : Words) (is : List ℕ) (s : ℕ) where
  abbrev Same : ℕ × ℕ → Type 0
  Same p = SameAt phrase (s + p.0) p.1

  numbered : (k : ℕ) (d : ℕ × ℕ) → k < length is → get_or (enumerate_from 0 is) k d ≡ (k, get_or is k 0)
  numbered k d lt =
      let e : 0 + k ≡ k = omega arith in
      let f : get_or is k d.1 ≡ get_or is k 0 = cc (slice_get-get_or is k d.1 lt, slice_get-get_or is k 0 lt) in
      get_or-enumerate_from 0 is k d lt ∙ ap (λ n. (n, get_or is k d.1)) e ∙ ap (λ p. (k, p)) f

  pub same_decides : (r : Bool) → MatchBool r (AllWithin Same (enumerate_from 0 is) 0 (length (enumerate_from 0 is))) ((k : ℕ) × (k < length (enumerate_from 0 is)) × HoldsAt (λ p. Same p → ⊥) (enumerate_from 0 is) k) → Decides r (SameFrom phrase is s)
  same_decides true h = decides_yes _ (record { same = λ k lt. subst Same (numbered k (0, 0) lt) (h k (0, 0) (omega arith) (omega (arith, length-enumerate_from 0 is))) })
  same_decides false h =
      let lt : h.0 < length is = omega (arith, h.1, length-enumerate_from 0 is) in
      decides_no _ (λ all. h.2 (0, 0) (subst Same (sym (numbered h.0 (0, 0) lt)) (all.same h.0 lt)))
