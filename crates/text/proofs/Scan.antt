-- The scan of one word: what it keeps from byte to byte, and what the walk does at each kind of byte.
use Rattle.std.proofs.Common.{◌≡◌, ℕ, suc, ◌+◌, ◌-◌, ◌<◌, ◌≤◌, true, false, ◌⊎◌, List, [], ◌∷◌, ◌++◌, length, get_or, take, drop, Ok, refl, ap, ◌∙◌, ⊎_elim, add-one, arith}
use Rattle.std.proofs.lemmas.List.Edits.{length-between, between_more}
use Rattle.std.proofs.lemmas.List.{get_or-drop, get_or-take, length-drop, at_drop_more, at_drop_all}
use Rattle.std.proofs.lemmas.Bool.{le-leb, lt-leb, and_right, and_from, or_left, or_right, or_from, cases_eq}
use Rattle.fault.specs.declared.kinds.PhraseFault.TheVariants.{WrongByte, LongWord, TooManyWords}
use Rattle.grammar.specs.PhraseWalk.{Walk, walk, kind, empty, stopped, finished, hand_out, most_words, longest_word}
use Rattle.grammar.specs.PhraseWalk.Kind.{between, letter, neither}
use Rattle.text.specs.HandOut.{walk_from, part, Ended}

-- a byte of the rest of a phrase is one of the phrase
pub rest_byte : (s : List ℕ) (a k : ℕ) → a + k < length s → get_or (take (length s - a) (drop a s)) k 0 ≡ get_or s (a + k) 0
rest_byte s a k inside = get_or-take (length s - a) (drop a s) k 0 (omega arith) ∙ get_or-drop a s k 0

empty_none : (bytes : List ℕ) → length bytes ≡ 0 → empty bytes ≡ true
empty_none [] none = refl
empty_none (b ∷ bytes) none = absurd (omega arith)

empty_some : (bytes : List ℕ) → 0 < length bytes → empty bytes ≡ false
empty_some [] some = absurd (omega arith)
empty_some (b ∷ bytes) some = refl

-- the word from place a on is sound up to place p, after n words
pub record Scanning (n a p : ℕ) (s : List ℕ) : Type 0 where
  pub from : a ≤ p
  pub to : p ≤ length s
  pub few : a < p → n < most_words
  pub same : walk_from n a s ≡ walk n p (part a p s) (drop p s)

module _ {n a p : ℕ} {s : List ℕ} (scan : Scanning n a p s) where
  long : length (part a p s) ≡ p - a
  long = length-between s a p scan.to

  back : p - length (part a p s) ≡ a
  back = omega (arith, long, scan.from)

  first : p ≡ a → empty (part a p s) ≡ true
  first h = empty_none _ (omega (arith, long))

  later : a < p → empty (part a p s) ≡ false
  later h = empty_some _ (omega (arith, long))

  -- a word that has begun, or may begin here, comes after few words
  pub few_words : (p ≡ a → n < most_words) → n < most_words
  few_words begins = ⊎_elim begins (λ begun. scan.few (omega (arith, begun, scan.from))) (cases_eq p a)

  ended : a < p → walk_from n a s ≡ hand_out a (part a p s) (walk_from (n + 1) (p + 1) s) → Ended n a s (Ok p)
  ended begun out = (begun, scan.to, scan.few begun, out)

  -- the scan stands at a byte
  module _ (inside : p < length s) where
    here : walk_from n a s ≡ walk n p (part a p s) (get_or s p 0 ∷ drop (p + 1) s)
    here = scan.same ∙ at_drop_more (walk n p (part a p s)) s p 0 inside

    pub neither_stops : kind (get_or s p 0) ≡ neither → walk_from n a s ≡ stopped (WrongByte p)
    neither_stops k = here ∙ simp (k, walk)

    pub word_too_many : kind (get_or s p 0) ≡ letter → p ≡ a → most_words ≤ n → walk_from n a s ≡ stopped (TooManyWords p)
    word_too_many k begins many =
        let test = and_from _ _ (first begins) (le-leb most_words n many) in
        here ∙ simp (k, walk, test)

    pub letter_too_many : kind (get_or s p 0) ≡ letter → n < most_words → longest_word ≤ p - a → walk_from n a s ≡ stopped (LongWord p)
    letter_too_many k few over =
        let test = and_right (empty (part a p s)) _ (lt-leb most_words n few) in
        let tall = le-leb longest_word (length (part a p s)) (omega (arith, long)) in
        here ∙ simp (k, walk, test, tall)

    pub letter_more : kind (get_or s p 0) ≡ letter → n < most_words → p - a < longest_word → Scanning n a (p + 1) s
    letter_more k few under =
        let test = and_right (empty (part a p s)) _ (lt-leb most_words n few) in
        let short = lt-leb longest_word (length (part a p s)) (omega (arith, long)) in
        let on : walk n p (part a p s) (get_or s p 0 ∷ drop (p + 1) s) ≡ walk n (suc p) (part a p s ++ get_or s p 0 ∷ []) (drop (p + 1) s) = simp (k, walk, test, short) in
        record {
          from = omega (arith, scan.from);
          to = omega arith;
          few = λ _. few;
          same = here ∙ cc (on, add-one p, between_more s a p 0 scan.from inside);
        }

    pub wrong_blank : kind (get_or s p 0) ≡ between → (p ≡ a) ⊎ (p + 1 ≡ length s) → walk_from n a s ≡ stopped (WrongByte p)
    wrong_blank k outside =
        let none : p + 1 ≡ length s → empty (drop (p + 1) s) ≡ true = λ last. empty_none _ (simp length-drop (omega arith)) in
        let test = ⊎_elim (λ begins. or_left (empty (part a p s)) (empty (drop (p + 1) s)) (first begins)) (λ last. or_right _ _ (none last)) outside in
        here ∙ simp (k, walk, test)

    pub blank_ends : kind (get_or s p 0) ≡ between → a < p → p + 1 < length s → Ended n a s (Ok p)
    blank_ends k begun more =
        let test = or_from _ _ (later begun) (empty_some (drop (p + 1) s) (simp length-drop (omega arith))) in
        let on : walk n p (part a p s) (get_or s p 0 ∷ drop (p + 1) s) ≡ hand_out (p - length (part a p s)) (part a p s) (walk (suc n) (suc p) [] (drop (p + 1) s)) = simp (k, walk, test) in
        ended begun (here ∙ cc (on, back, add-one n, add-one p))

  pub phrase_ends : length s ≤ p → a < p → Ended n a s (Ok p)
  phrase_ends end begun =
      let some = later begun in
      let on : walk n p (part a p s) [] ≡ hand_out (p - length (part a p s)) (part a p s) finished = simp (walk, some) in
      ended begun (scan.same ∙ cc (at_drop_all (walk n p (part a p s)) s p end, on, back, at_drop_all (walk (n + 1) (p + 1) []) s (p + 1) (omega arith)))

pub nothing_left : (n p : ℕ) (s : List ℕ) → length s ≤ p → walk_from n p s ≡ finished
nothing_left n p s end = at_drop_all (walk n p []) s p end

-- a word that ended at place e is handed out as that part of the phrase
pub handed_out : (n p e : ℕ) (s : List ℕ) {later : Walk} → Ended n p s (Ok e) → walk_from (n + 1) (e + 1) s ≡ later → (walk_from n p s ≡ hand_out p (part p e s) later) × (part p e s ≡ part p (p + length (part p e s)) s)
handed_out n p e s told after =
    let full : e ≡ p + length (part p e s) = omega (arith, told.0, length-between s p e told.1) in
    (told.3 ∙ ap (hand_out p (part p e s)) after, ap (λ k. part p k s) full)
