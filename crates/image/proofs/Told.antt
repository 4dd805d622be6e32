-- What each question is told out of the fields of a sound image.
use Rattle.std.proofs.Common.{◌≡◌, ℕ, ◌+◌, ◌-◌, ◌/◌, ◌%◌, ◌<◌, ◌≤◌, Bool, true, false, cond, ◌&&◌, ltb, List, length, get_or, drop, Some, None, sym, refl, ap, ◌∙◌, subst, arith}
use Rattle.std.specs.List.{slice_get}
use Rattle.std.specs.Bool.{then_some}
use Rattle.std.specs.Option.{option_map}
use Rattle.std.proofs.lemmas.List.{get_or-take, get_or-drop}
use Rattle.std.proofs.lemmas.Option.{slice_get-get_or, slice_get_past}
use Rattle.std.proofs.lemmas.Bool.{ltb-true, ltb-false, and_parts}
use Rattle.view.specs.Grammar.{listing, image_function, image_meaning, sequence, symbol_of}
use Rattle.view.specs.Layout.{byte, functions, words, spelled_from, dimension, arity, argument, word_offset, word_length, spelling, rule_function, first_symbol, symbol_count, rule_dimension, symbol_bits}
use Rattle.grammar.proofs.Optional.{none_some}
use Rattle.grammar.specs.Questions.{arguments_answer, at, rule_at, sequence_at, word_byte_answer, sequence_answer, sequence_length_answer, symbol_answer}
use Rattle.image.specs.Lookups.{LookedUp, entry_of}
use Rattle.image.specs.declared.lookup.Lookup.{Lookup}
use Rattle.image.specs.declared.lookup.Lookup.TheVariants.{OutOfRange, Missing, Entry}
use Rattle.soundness.proofs.Asking.{arguments_known, listing_past}
use Rattle.soundness.proofs.Lawfulness.{word_long, symbols_inside}
use Rattle.soundness.proofs.Listings.{listing_length, listing_nth}
use Rattle.soundness.proofs.Sound.{Sound}

-- bits that stand for a word, or for a constituent of one of three arguments
low_bits : (bits words arity : ℕ) (dimension : ℕ → ℕ) → arity ≤ 3 → cond (ltb bits 0x8000) (ltb bits words) (ltb ((bits - 0x8000) / 4) arity && ltb ((bits - 0x8000) % 4) (dimension ((bits - 0x8000) / 4))) ≡ true → bits < 0x8400
low_bits bits words arity dimension few e = by (ltb bits 0x8000) refl e
  where
    by : (t : Bool) → ltb bits 0x8000 ≡ t → cond t (ltb bits words) (ltb ((bits - 0x8000) / 4) arity && ltb ((bits - 0x8000) % 4) (dimension ((bits - 0x8000) / 4))) ≡ true → bits < 0x8400
    by true t h = omega (arith, ltb-true bits 0x8000 t)
    by false t h =
        let p = ltb-true _ _ (and_parts (ltb ((bits - 0x8000) / 4) arity) (ltb ((bits - 0x8000) % 4) (dimension ((bits - 0x8000) / 4))) h).0 in
        omega (arith, p)

module _ (b : List ℕ) where
  pub functions_told : functions b ≡ length (image_meaning b).signature.functions
  functions_told = sym (listing_length (image_function b) (functions b))

  pub words_told : words b ≡ length (image_meaning b).words
  words_told = sym (listing_length (spelling b) (words b))

-- what is told of a number below n, where it is h of f at it, is what is asked of a list of n
pub told_below : {A B : Type 0} (n i : ℕ) (f : ℕ → A) (h : A → B) (x : B) → (i < n → x ≡ h (f i)) → then_some (ltb i n) x ≡ option_map h (slice_get (listing n f) i)
told_below n i f h x says = by (ltb i n) refl
  where
    by : (b : Bool) → ltb i n ≡ b → then_some b x ≡ option_map h (slice_get (listing n f) i)
    by true e = let lt = ltb-true i n e in ap Some (says lt) ∙ sym (ap (option_map h) (listing_nth f n i lt))
    by false e = sym (ap (option_map h) (listing_past f n i (ltb-false i n e)))

-- a function's arguments, as many as its arity
pub arguments_told : (b : List ℕ) (f : ℕ) → f < functions b → (n : ℕ) → n ≡ arity b f → Some (listing n (argument b f)) ≡ arguments_answer (image_meaning b) f
arguments_told b f lt n few = ap (λ n. Some (listing n (argument b f))) few ∙ sym (arguments_known b f lt)

module _ (b : List ℕ) where
  pub word_byte_none : (w i : ℕ) → words b ≤ w → None ≡ word_byte_answer (image_meaning b) w i
  word_byte_none w i past = sym (ap (λ o. at o i) (listing_past (spelling b) (words b) w past))

  -- a rule that has no entry has no sequences
  pub no_entry : (f : ℕ) (forms : List ℕ) (l : Lookup) → LookedUp b f forms l → None ≡ entry_of l → (k : ℕ) → None ≡ sequence_answer (image_meaning b) f forms k
  no_entry f forms OutOfRange found e k = sym (ap (λ o. sequence_at (rule_at (image_meaning b) f o) k) found)
  no_entry f forms Missing found e k = sym (ap (λ o. sequence_at (rule_at (image_meaning b) f o) k) found.1 ∙ ap (λ o. sequence_at (Some o) k) found.2)
  no_entry f forms (Entry i) found e k = absurd (none_some i e)

  pub its_entry : (f : ℕ) (forms : List ℕ) (l : Lookup) → LookedUp b f forms l → (i : ℕ) → Some i ≡ entry_of l → LookedUp b f forms (Entry i)
  its_entry f forms OutOfRange found i e = absurd (none_some i (sym e))
  its_entry f forms Missing found i e = absurd (none_some i (sym e))
  its_entry f forms (Entry j) found i e = let same : j ≡ i = cc in subst (λ k. LookedUp b f forms (Entry k)) same found

module _ (b : List ℕ) (s : Sound b) where
  word_bytes : (w i : ℕ) → w < words b → word_byte_answer (image_meaning b) w i ≡ slice_get (spelling b w) i
  word_bytes w i lt = ap (λ o. at o i) (listing_nth (spelling b) (words b) w lt)

  pub word_byte_past : (w i : ℕ) → w < words b → word_length b w ≤ i → None ≡ word_byte_answer (image_meaning b) w i
  word_byte_past w i lt past = sym (word_bytes w i lt ∙ slice_get_past (spelling b w) i (omega (arith, word_long b s w lt)))

  pub word_byte_told : (w i : ℕ) → w < words b → i < word_length b w → Some (byte b (spelled_from b + word_offset b w + i)) ≡ word_byte_answer (image_meaning b) w i
  word_byte_told w i lt il =
      let from = spelled_from b + word_offset b w in
      let read : get_or (spelling b w) i 0 ≡ byte b (from + i) = get_or-take (word_length b w) (drop from b) i 0 il ∙ get_or-drop from b i 0 in
      sym (word_bytes w i lt ∙ slice_get-get_or (spelling b w) i 0 (omega (arith, word_long b s w lt)) ∙ ap Some read)

  -- a question on a rule that has an entry
  module _ (f : ℕ) (forms : List ℕ) (i : ℕ) (found : LookedUp b f forms (Entry i)) where
    sequences : (k : ℕ) → sequence_answer (image_meaning b) f forms k ≡ slice_get (listing (rule_dimension b i) (sequence b i)) k
    sequences k = ap (λ o. sequence_at (rule_at (image_meaning b) f o) k) found.1 ∙ ap (λ o. sequence_at (Some o) k) found.3

    pub sequence_told : (k : ℕ) → then_some (ltb k (rule_dimension b i)) (symbol_count b i k) ≡ sequence_length_answer (image_meaning b) f forms k
    sequence_told k =
        told_below (rule_dimension b i) k (sequence b i) length (symbol_count b i k) (λ lt. sym (listing_length (λ j. symbol_of (symbol_bits b (first_symbol b i k + j))) (symbol_count b i k)))
        ∙ sym (ap (option_map length) (sequences k))

    pub symbol_none : (k j : ℕ) → rule_dimension b i ≤ k → None ≡ symbol_answer (image_meaning b) f forms k j
    symbol_none k j past = sym (ap (λ o. at o j) (sequences k ∙ listing_past (sequence b i) (rule_dimension b i) k past))

    symbols_at : (k j : ℕ) → k < rule_dimension b i → symbol_answer (image_meaning b) f forms k j ≡ slice_get (sequence b i k) j
    symbols_at k j lt = ap (λ o. at o j) (sequences k ∙ listing_nth (sequence b i) (rule_dimension b i) k lt)

    pub symbol_past : (k j : ℕ) → k < rule_dimension b i → symbol_count b i k ≤ j → None ≡ symbol_answer (image_meaning b) f forms k j
    symbol_past k j lt past = sym (symbols_at k j lt ∙ listing_past (λ n. symbol_of (symbol_bits b (first_symbol b i k + n))) (symbol_count b i k) j past)

    pub symbol_told : (k j : ℕ) → k < rule_dimension b i → j < symbol_count b i k → Some (symbol_of (symbol_bits b (first_symbol b i k + j))) ≡ symbol_answer (image_meaning b) f forms k j
    symbol_told k j lt jl = sym (symbols_at k j lt ∙ listing_nth (λ n. symbol_of (symbol_bits b (first_symbol b i k + n))) (symbol_count b i k) j jl)

    -- a symbol in use names one of three arguments
    pub symbol_low : (k j : ℕ) → k < rule_dimension b i → j < symbol_count b i k → symbol_bits b (first_symbol b i k + j) < 0x8400
    symbol_low k j lt jl =
        low_bits (symbol_bits b (first_symbol b i k + j)) (words b) (arity b (rule_function b i)) (λ a. dimension b (argument b (rule_function b i) a)) (s.function_sound (rule_function b i) (s.rule_sound i found.2).known).arity_range (s.symbol_sound i k j found.2 lt jl)

    -- its number fits 16 bits
    pub number_low : (k j : ℕ) → k < rule_dimension b i → j < symbol_count b i k → first_symbol b i k + j < 4096
    number_low k j lt jl = omega (arith, symbols_inside b s i found.2 k lt, s.symbol_range)
