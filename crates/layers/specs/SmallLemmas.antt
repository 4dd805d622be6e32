-- A language in small letters: its law, and its answers from those below.
use Rattle.std.specs.Prelude.{◌≡◌, ℕ, ◌+◌, ◌≤◌, ◌&&◌, length, Some, None, Option, nat_le, refl}
use Rattle.std.proofs.Common.{sym, ap, inl, arith}
use Rattle.std.specs.List.{slice_get, AllByRecursion}
use Rattle.std.specs.Option.{option_map}
use Rattle.std.proofs.ByRecursion.{All-weaker, All-map}
use Rattle.std.proofs.lemmas.List.{length-map}
use Rattle.std.proofs.lemmas.Bool.{cond_both, and_parts, leb-true}
use Rattle.grammar.specs.Languages.{Meaning, Permitted, Spelling, Lawful}
use Rattle.grammar.specs.Questions.{at, word_length_answer, word_byte_answer}
use Rattle.grammar.proofs.Nth.{nth_map}
use Rattle.layers.specs.Small.{small, small_word, small_letters}
use Rattle.layers.specs.Kept.{rule_kept}

-- a small letter may stand in a word
small_permitted : (b : ℕ) → Permitted b → Permitted (small b)
small_permitted b h =
    cond_both (nat_le 0x41 b && nat_le b 0x5A) (b + 0x20) b Permitted
    (λ e.
    let parts = and_parts (nat_le 0x41 b) (nat_le b 0x5A) e in
    let low = leb-true 0x41 b parts.0 in
    let high = leb-true b 0x5A parts.1 in
    inl (omega arith, omega arith))
    (λ e. h)

-- each word is as long as below
pub small_length : (m : Meaning) (w : ℕ) → word_length_answer (small_letters m) w ≡ word_length_answer m w
small_length m w = rw (nth_map small_word m.words w) (by (slice_get m.words w))
  where
    by : (o : Option Spelling) → option_map length (option_map small_word o) ≡ option_map length o
    by None = refl
    by (Some s) = ap Some (length-map s small)

-- and each byte is that below made small
pub small_byte : (m : Meaning) (w i : ℕ) (o : Option ℕ) → o ≡ word_byte_answer m w i → option_map small o ≡ word_byte_answer (small_letters m) w i
small_byte m w i o told = rw (told, nth_map small_word m.words w) (by (slice_get m.words w))
  where
    by : (s : Option Spelling) → option_map small (at s i) ≡ at (option_map small_word s) i
    by None = refl
    by (Some s) = sym (nth_map small s i)

abbrev Sized : Spelling → Type 0
Sized w = (1 ≤ length w) × (length w ≤ 24)

permitted : (w : Spelling) → AllByRecursion Permitted w → AllByRecursion Permitted (small_word w)
permitted w h = All-map Permitted small w (All-weaker Permitted (λ b. Permitted (small b)) small_permitted w h)

pub small_lawful : (m : Meaning) → Lawful m → Lawful (small_letters m)
small_lawful m law =
    let as_many = length-map m.words small_word in
    record {
      signature_lawful = law.signature_lawful;
      one_dimension_each = law.one_dimension_each;
      dimension_range = law.dimension_range;
      word_range = rw as_many law.word_range;
      spelling_range =
          All-map Sized small_word m.words
          (All-weaker Sized (λ w. Sized (small_word w)) (λ w h. rw (length-map w small) h) m.words law.spelling_range);
      spelling_permitted =
          All-map (AllByRecursion Permitted) small_word m.words
          (All-weaker (AllByRecursion Permitted) (λ w. AllByRecursion Permitted (small_word w)) permitted m.words law.spelling_permitted);
      rules_lawful = λ f forms r h.
          let below = law.rules_lawful f forms r h in
          (below.0, below.1, rule_kept m (small_letters m) below.0 forms r (sym as_many) refl below.2);
    }
