-- What the phrase's walk hands out: at most 32 words.
use Rattle.std.proofs.Common.{◌≡◌, ℕ, suc, ◌+◌, ◌<◌, ◌≤◌, Bool, true, false, ◌&&◌, ◌||◌, leb, List, [], ◌∷◌, ◌++◌, length, sym, refl, ⊎_elim, arith}
use Rattle.std.proofs.lemmas.Bool.{leb-false, or_parts, and_cases, false≢true}
use Rattle.grammar.specs.PhraseWalk.{Kind, walk, kind, empty, most_words, longest_word, phrase_walk}
use Rattle.grammar.specs.PhraseWalk.Kind.{between, letter, neither}

not_empty : (word : List ℕ) → empty word ≡ false → 0 < length word
not_empty [] e = absurd (false≢true (sym e))
not_empty (b ∷ bs) e = omega arith

-- the words that the walk hands out from any state on make up 32 at most
abbrev FewIn : List ℕ → Type 0
FewIn bytes = (n p : ℕ) (word : List ℕ) → n ≤ 32 → (0 < length word → n < 32) → n + length (walk n p word bytes).words ≤ 32

-- after n words and the bytes `word` of the next one, the words still to come make up 32 at most
few_words : (bytes : List ℕ) → FewIn bytes
few_words [] n p [] within begun = omega arith
few_words [] n p (b ∷ bs) within begun = omega (arith, begun (omega arith))
few_words (b ∷ rest) n p word within begun = by (kind b) refl (few_words rest)
  where
    at_blank : (t : Bool) → (empty word || empty rest) ≡ t → kind b ≡ between → FewIn rest → n + length (walk n p word (b ∷ rest)).words ≤ 32
    at_blank true t k later = simp (k, walk, t) (omega arith)
    at_blank false t k later =
        let some = not_empty word (or_parts (empty word) (empty rest) t).0 in
        simp (k, walk, t) (omega (arith, begun some, later (suc n) (suc p) [] (omega (arith, begun some)) (λ none. absurd (omega arith))))

    at_letter : (t u : Bool) → (empty word && leb most_words n) ≡ t → leb longest_word (length word) ≡ u → kind b ≡ letter → FewIn rest → n + length (walk n p word (b ∷ rest)).words ≤ 32
    at_letter true u t v k later = simp (k, walk, t) (omega arith)
    at_letter false true t v k later = simp (k, walk, t, v) (omega arith)
    at_letter false false t v k later =
        let few : n < 32 = ⊎_elim (λ e. begun (not_empty word e)) (λ e. omega (arith, leb-false most_words n e)) (and_cases (empty word) (leb most_words n) t) in
        simp (k, walk, t, v) (later n (suc p) (word ++ b ∷ []) within (λ some. few))

    by : (x : Kind) → kind b ≡ x → FewIn rest → n + length (walk n p word (b ∷ rest)).words ≤ 32
    by between k later = at_blank _ refl k later
    by letter k later = at_letter _ _ refl refl k later
    by neither k later = simp (k, walk) (omega arith)

pub at_most_32_words : (bytes : List ℕ) → length (phrase_walk bytes).words ≤ 32
at_most_32_words bytes = omega (arith, few_words bytes 0 0 [] (omega arith) (λ none. absurd (omega arith)))
