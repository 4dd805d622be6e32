-- The words of a language, byte by byte.
use Rattle.std.proofs.Common.{◌≡◌, ℕ, zero, suc, ◌+◌, ◌≤◌, Bool, true, List, [], ◌∷◌, ◌++◌, length, get_or, take, Some, Option, unwrap_or, sym, refl, ap, ◌∙◌, add-one, arith}
use Rattle.std.specs.List.{slice_get}
use Rattle.std.proofs.lemmas.List.{length-append, length-take-le}
use Rattle.grammar.specs.Languages.{Meaning, Words}
use Rattle.grammar.specs.Questions.{at, word_byte_answer, word_length_answer}
use Rattle.writer.specs.declared.WordWriter.{WordWriter}
use Rattle.writer.specs.PutDown.{gap, Grown, Puts}
use Rattle.writer.proofs.Growth.{grown_on, still_fits, put_fits}
use Rattle.measure.proofs.Adding.{word_told}
use Rattle.linearizer.specs.Frames.{spelling}
use Rattle.grammar.proofs.Nth.{nth_below}
use Rattle.linearizer.proofs.Walking.{nth_taken}

-- the byte that is answered is that of the word
at_word : (ws : Words) (n i : ℕ) → at (slice_get ws n) i ≡ slice_get (get_or ws n []) i
at_word [] n i = refl
at_word (w ∷ ws) zero i = refl
at_word (w ∷ ws) (suc n) i = at_word ws n i

pub byte_told : (m : Meaning) (n i : ℕ) (o : Option ℕ) → o ≡ word_byte_answer m n i → slice_get (spelling m n) i ≡ o
byte_told m n i o told = sym (told ∙ at_word m.words n i)

-- and so is the length
pub word_long : (m : Meaning) (n : ℕ) (count : Option ℕ) (k : ℕ) → count ≡ word_length_answer m n → k ≡ unwrap_or count 0 → k ≡ length (spelling m n)
word_long m n count k told is = is ∙ ap (λ o. unwrap_or o 0) told ∙ word_told m.words n

-- a word that has room with its gap begins, and still has room
pub grown_gap : (w : List ℕ) (r : Bool) {before between : WordWriter} → before.used + length (gap before ++ w) ≤ length before.part.now → Puts (gap before) true before r between → Grown (gap before) true before between × (between.used + length w ≤ length between.part.now)
grown_gap w r {before = before} {between = between} room puts =
    let long = length-append (gap before) w in
    let begun = put_fits (gap before) true before between r puts (omega arith) in
    (begun, still_fits (gap before) w begun (omega arith))

-- one byte more of a word that has room
pub grown_byte : (w : List ℕ) (i b : ℕ) (r : Bool) {before between after : WordWriter} → slice_get w i ≡ Some b → before.used + length w ≤ length before.part.now → Grown (take i w) before.started before between → Puts (b ∷ []) between.started between r after → Grown (take (i + 1) w) before.started before after
grown_byte w i b r here room so_far puts =
    let within = nth_below w i b here in
    let long = length-take-le i w (omega arith) in
    let fits = still_fits (take i w) (b ∷ []) so_far (omega arith) in
    rw (add-one, nth_taken w i b here) (grown_on (take i w) (b ∷ []) so_far (put_fits (b ∷ []) _ _ _ r puts fits))
