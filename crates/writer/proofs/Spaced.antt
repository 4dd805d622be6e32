-- Words joined by single blanks: one word more at the end, and the words of a slice up to a place.
use Rattle.std.proofs.Common.{◌≡◌, ℕ, ◌+◌, ◌<◌, ◌≤◌, true, cond, List, [], ◌∷◌, ◌++◌, length, get_or, take, drop, sym, refl, ap, ◌∙◌, subst, append_assoc, arith, Bor}
use mathlib.Core.List.{map-append}
use Rattle.std.proofs.lemmas.List.{length-append, map_more, take-append-drop}
use Rattle.grammar.specs.Languages.{Spelling, Words}
use Rattle.grammar.specs.Linearization.{blank, spaced}
use Rattle.writer.specs.PutDown.{some_words, spellings}

-- the blank that stands between these words and the next
abbrev pub gap_after : Words → List ℕ
gap_after ws = cond (some_words ws) (blank ∷ []) []

pub some_more : (ws : Words) (w : Spelling) → some_words (ws ++ w ∷ []) ≡ true
some_more [] w = refl
some_more (v ∷ ws) w = refl

pub spaced_more : (ws : Words) (w : Spelling) → spaced (ws ++ w ∷ []) ≡ spaced ws ++ (gap_after ws ++ w)
spaced_more [] w = refl
spaced_more (v ∷ []) w = refl
spaced_more (v ∷ u ∷ ws) w =
    ap (λ rest. v ++ (blank ∷ rest)) (spaced_more (u ∷ ws) w) ∙ sym (append_assoc v (blank ∷ spaced (u ∷ ws)) (blank ∷ w))

-- more words make no shorter text
pub spaced_longer : (ws vs : Words) → length (spaced ws) ≤ length (spaced (ws ++ vs))
spaced_longer [] vs = omega arith
spaced_longer (w ∷ []) [] = omega arith
spaced_longer (w ∷ []) (v ∷ vs) = simp length-append (omega arith)
spaced_longer (w ∷ v ∷ ws) vs = simp length-append (omega (arith, spaced_longer (v ∷ ws) vs))

-- what stands past the end of a slice of words
abbrev pub no_word : Bor (List ℕ)
no_word = record { ref_ptr = (0, 0); now = [] }

-- the words of a slice up to place i, and the one there
module _ (ws : List (Bor (List ℕ))) (i : ℕ) where
  module _ (within : i < length ws) where
    pub next_words : spellings (take (i + 1) ws) ≡ spellings (take i ws) ++ (get_or ws i no_word).now ∷ []
    next_words = map_more (λ w. w.now) ws i no_word within

    pub next_text : spaced (spellings (take (i + 1) ws)) ≡ spaced (spellings (take i ws)) ++ (gap_after (spellings (take i ws)) ++ (get_or ws i no_word).now)
    next_text = ap spaced next_words ∙ spaced_more (spellings (take i ws)) (get_or ws i no_word).now

    pub next_length : length (spaced (spellings (take (i + 1) ws))) ≡ length (spaced (spellings (take i ws))) + length (gap_after (spellings (take i ws))) + length (get_or ws i no_word).now
    next_length = ap length next_text ∙ simp length-append (omega arith)

    pub next_some : some_words (spellings (take (i + 1) ws)) ≡ true
    next_some = ap some_words next_words ∙ some_more (spellings (take i ws)) (get_or ws i no_word).now

  pub no_longer : length (spaced (spellings (take i ws))) ≤ length (spaced (spellings ws))
  no_longer =
      let whole : spellings (take i ws) ++ spellings (drop i ws) ≡ spellings ws =
      sym (map-append (λ w. w.now) (take i ws) (drop i ws)) ∙ ap spellings (take-append-drop i ws) in
      let P : Words → Type 0 = λ vs. length (spaced (spellings (take i ws))) ≤ length (spaced vs) in
      subst P whole (spaced_longer (spellings (take i ws)) (spellings (drop i ws)))
