-- How a reading puts the words of a phrase into a table, one after the other.
use Rattle.std.proofs.Common.{◌≡◌, ℕ, ◌+◌, ◌<◌, cond, List, [], ◌∷◌, ◌++◌, map, length, is_some, Some, None, Ok, Option, sym, ap, ◌∙◌, subst, arith, Bor}
use Rattle.std.specs.Option.{SomeIff}
use Rattle.std.proofs.lemmas.List.{append_assoc, append-nil, length-append, length-map, map_push}
use Rattle.grammar.specs.PhraseWalk.{Walk, finished, hand_out, phrase_walk, read_phrase, spelling_of}
use Rattle.grammar.proofs.PhraseWalks.{at_most_32_words}
use Rattle.text.specs.declared.reader.PhraseWord.{PhraseWord}
use Rattle.text.specs.HandOut.{Handed}
use Rattle.phrase.specs.Spelled.{bytes_of}

abbrev Held : Type 0
Held = List (Bor (List ℕ))

-- the words are read, and the walk that is left has the others and stops as the whole does
pub record Reading (bytes : List ℕ) (words : Held) (left : Walk) : Type 0 where
  pub read : map spelling_of (phrase_walk bytes).words ≡ map bytes_of words ++ map spelling_of left.words
  pub stop : (phrase_walk bytes).stop ≡ left.stop

module _ (bytes : List ℕ) (words : Held) (left : Walk) (r : Reading bytes words left) (phrase : List ℕ) (after : Walk) (o : Option PhraseWord) (h : Handed phrase left (Ok o) after) where
  left_with : (w : PhraseWord) → o ≡ Some w → left ≡ hand_out w.place w.text.now after
  left_with w e = (subst (λ p. Handed phrase left (Ok p) after) e h).0

  -- a word that is handed out has a place
  room : (w : PhraseWord) → o ≡ Some w → length words < 32
  room w e =
      let long : length (map spelling_of (phrase_walk bytes).words) ≡ length (map bytes_of words) + length (map spelling_of left.words) = ap length r.read ∙ length-append (map bytes_of words) (map spelling_of left.words) in
      omega (arith, long, length-map (phrase_walk bytes).words spelling_of, length-map left.words spelling_of, length-map words bytes_of, at_most_32_words bytes, ap (λ v. length v.words) (left_with w e))

  pub one_more : (w : PhraseWord) → o ≡ Some w → (p : Option ℕ) (more : Held) → SomeIff p (length words < 32) (length words) → more ≡ cond (is_some p) (words ++ w.text ∷ []) words → Reading bytes more after
  one_more w e None more placed put = absurd (placed (room w e))
  one_more w e (Some p) more placed put = record {
    read =
        r.read
        ∙ ap (λ (v : Walk). map bytes_of words ++ map spelling_of v.words) (left_with w e)
        ∙ sym (append_assoc (map bytes_of words) (w.text.now ∷ []) (map spelling_of after.words))
        ∙ ap (λ front. front ++ map spelling_of after.words) (sym (map_push bytes_of words w.text))
        ∙ ap (λ all. map bytes_of all ++ map spelling_of after.words) (sym put);
    stop = r.stop ∙ ap (λ (v : Walk). v.stop) (left_with w e);
  }

  pub all_read : o ≡ None → read_phrase bytes ≡ Ok (map bytes_of words)
  all_read e =
      let left_none : left ≡ finished = (subst (λ p. Handed phrase left (Ok p) after) e h).0 in
      let whole : map spelling_of (phrase_walk bytes).words ≡ map bytes_of words = r.read ∙ ap (λ (v : Walk). map bytes_of words ++ map spelling_of v.words) left_none ∙ append-nil (map bytes_of words) in
      let sound : (phrase_walk bytes).stop ≡ None = r.stop ∙ ap (λ (v : Walk). v.stop) left_none in
      let told : read_phrase bytes ≡ Ok (map spelling_of (phrase_walk bytes).words) = simp (sound, read_phrase) in
      told ∙ ap Ok whole
