-- The words of a notation: what stands at each number, how they are spelled, and that they are permitted.
use Rattle.std.specs.Prelude.{◌≡◌, ℕ, zero, suc, ◌+◌, ◌-◌, ◌/◌, ◌%◌, ◌<◌, ◌≤◌, [], ◌∷◌, ◌++◌, map, length, Some, refl}
use Rattle.std.proofs.Common.{sym, ap, subst, ◌∙◌, inl, ⊎_elim, arith}
use Rattle.std.specs.List.{slice_get, range_with_len, AllByRecursion}
use Rattle.std.specs.Option.{option_map}
use Rattle.std.proofs.lemmas.List.FromFn.{length-map-range_with_len}
use Rattle.std.proofs.lemmas.Fmt.{decimal_digit, decimal_step}
use Rattle.std.proofs.ByRecursion.{All-append, All-map}
use Rattle.std.proofs.lemmas.List.{length-append}
use Rattle.std.proofs.lemmas.Bool.{cases_lt}
use Rattle.grammar.specs.Languages.{Permitted, Spelling}
use Rattle.grammar.proofs.Nth.{nth_append_left, nth_append_right, nth_map_counting}
use Rattle.notation.specs.Notations.{function_word, marks, notation_words}

-- a number of one digit, and of two
pub short_word : (n : ℕ) → n < 10 → function_word n ≡ 0x66 ∷ (48 + n) ∷ []
short_word n h = ap (λ ds. 0x66 ∷ ds) (decimal_digit n h)

pub long_word : (n : ℕ) → 10 ≤ n → n < 64 → function_word n ≡ 0x66 ∷ (48 + n / 10) ∷ (48 + n % 10) ∷ []
long_word n low high =
    ap (λ ds. 0x66 ∷ ds) (decimal_step n low (omega arith) ∙ ap (λ ds. ds ++ (48 + n % 10) ∷ []) (decimal_digit (n / 10) (omega arith)))

pub words_length : (count : ℕ) → length (notation_words count) ≡ count + 3
words_length count = length-append (map function_word (range_with_len 0 count)) marks ∙ ap (λ n. n + 3) (length-map-range_with_len function_word 0 count)

pub function_word_at : (count w : ℕ) → w < count → slice_get (notation_words count) w ≡ Some (function_word w)
function_word_at count w h =
    let long = length-map-range_with_len function_word 0 count in
    nth_append_left (map function_word (range_with_len 0 count)) marks w (omega arith) ∙ nth_map_counting function_word count w h

pub mark_at : (count w : ℕ) → count ≤ w → slice_get (notation_words count) w ≡ slice_get marks (w - count)
mark_at count w h =
    let long = length-map-range_with_len function_word 0 count in
    nth_append_right (map function_word (range_with_len 0 count)) marks w (omega arith) ∙ ap (λ n. slice_get marks (w - n)) long

-- each mark is one byte
pub mark_length : (k : ℕ) → k < 3 → option_map length (slice_get marks k) ≡ Some 1
mark_length zero h = refl
mark_length (suc zero) h = refl
mark_length (suc (suc zero)) h = refl
mark_length (suc (suc (suc k))) h = absurd (omega arith)

-- a decimal digit
abbrev Digit : ℕ → Type 0
Digit d = (48 ≤ d) × (d ≤ 57)

-- what holds of an f before one digit or two, and of the marks, holds of all words
all_words : (P : Spelling → Type 0) → ((d : ℕ) → Digit d → P (0x66 ∷ d ∷ [])) → ((d e : ℕ) → Digit d → Digit e → P (0x66 ∷ d ∷ e ∷ [])) → AllByRecursion P marks → (count : ℕ) → count ≤ 64 → AllByRecursion P (notation_words count)
all_words P one two of_marks count few =
    All-append P (map function_word (range_with_len 0 count)) marks (All-map P function_word (range_with_len 0 count) (each 0 count (omega arith))) of_marks
  where
    of_function : (n : ℕ) → n < 64 → P (function_word n)
    of_function n h =
        ⊎_elim
        (λ low. subst P (sym (short_word n low)) (one (48 + n) (omega arith, omega arith)))
        (λ high. subst P (sym (long_word n high h)) (two (48 + n / 10) (48 + n % 10) (omega arith, omega arith) (omega arith, omega arith)))
        (cases_lt n 10)

    each : (a n : ℕ) → a + n ≤ 64 → AllByRecursion (λ k. P (function_word k)) (range_with_len a n)
    each a zero h = tt
    each a (suc n) h = (of_function a (omega arith), each (a + 1) n (omega arith))

abbrev Sized : Spelling → Type 0
Sized w = (1 ≤ length w) × (length w ≤ 24)

pub words_sized : (count : ℕ) → count ≤ 64 → AllByRecursion Sized (notation_words count)
words_sized =
    all_words Sized (λ d h. (omega arith, omega arith)) (λ d e h k. (omega arith, omega arith))
    ((omega arith, omega arith), ((omega arith, omega arith), ((omega arith, omega arith), tt)))

pub words_permitted : (count : ℕ) → count ≤ 64 → AllByRecursion (AllByRecursion Permitted) (notation_words count)
words_permitted =
    all_words (AllByRecursion Permitted) (λ d h. (inl (omega arith, omega arith), (inl (omega arith, omega arith), tt)))
    (λ d e h k. (inl (omega arith, omega arith), (inl (omega arith, omega arith), (inl (omega arith, omega arith), tt))))
    ((inl (omega arith, omega arith), tt), ((inl (omega arith, omega arith), tt), ((inl (omega arith, omega arith), tt), tt)))
