-- The phrase's walk: bytes read from the front into words with their places, up to the end or the first byte at fault.
use Rattle.std.specs.Prelude.{ℕ, suc, ◌-◌, Bool, true, false, cond, ◌&&◌, ◌||◌, List, [], ◌∷◌, ◌++◌, map, length, Some, None, Ok, Err, Option, Result, ◌==◌, nat_le}
use Rattle.fault.specs.declared.kinds.PhraseFault.{PhraseFault}
use Rattle.fault.specs.declared.kinds.PhraseFault.TheVariants.{WrongByte, LongWord, TooManyWords}
use Rattle.grammar.specs.Languages.{Spelling, Words}
use Rattle.grammar.specs.Linearization.{blank}

-- a word of a phrase, with the place of its first byte
pub record Placed : Type 0 where
  pub place : ℕ
  pub spelling : Spelling

-- the words that the walk hands out, and the fault that stopped it, if one did
pub record Walk : Type 0 where
  pub words : List Placed
  pub stop : Option PhraseFault

abbrev pub stopped : PhraseFault → Walk
stopped f = record { words = []; stop = Some f }

abbrev pub finished : Walk
finished = record { words = []; stop = None }

abbrev pub hand_out : ℕ → Spelling → Walk → Walk
hand_out p w later = record { words = record { place = p; spelling = w } ∷ later.words; stop = later.stop }

abbrev pub empty : List ℕ → Bool
empty [] = true
empty (b ∷ bs) = false

-- a byte that may stand in a word: 0x21 to 0x7E, or 0x80 to 0xFF
abbrev pub permitted : ℕ → Bool
permitted b = (nat_le 0x21 b && nat_le b 0x7E) || (nat_le 0x80 b && nat_le b 0xFF)

abbrev pub longest_word : ℕ
longest_word = 24

abbrev pub most_words : ℕ
most_words = 32

-- a byte of a phrase is a blank, a byte of a word, or neither
pub data Kind : Type 0 where
  between : Kind
  letter : Kind
  neither : Kind

abbrev pub kind : ℕ → Kind
kind b = cond (b == blank) between (cond (permitted b) letter neither)

-- at place p, after n whole words and the bytes `word` of the next one
abbrev pub walk : ℕ → ℕ → Spelling → List ℕ → Walk
walk n p word [] = cond (empty word) finished (hand_out (p - length word) word finished)
walk n p word (b ∷ rest) =
    elim (kind b) [
      -- a blank first, after a blank, or last is at fault
      | between ↦ elim (empty word || empty rest) [
        | true ↦ stopped (WrongByte p)
        | false ↦ hand_out (p - length word) word (walk (suc n) (suc p) [] rest)
      ]
      -- so is the first byte of a word too many, and a byte too many of a word
      | letter ↦ elim (empty word && nat_le most_words n) [
        | true ↦ stopped (TooManyWords p)
        | false ↦ elim (nat_le longest_word (length word)) [
          | true ↦ stopped (LongWord p)
          | false ↦ walk n (suc p) (word ++ b ∷ []) rest
        ]
      ]
      | neither ↦ stopped (WrongByte p)
    ]

-- a whole phrase
abbrev pub phrase_walk : List ℕ → Walk
phrase_walk bytes = walk 0 0 [] bytes

abbrev pub spelling_of : Placed → Spelling
spelling_of w = w.spelling

-- the phrase that the bytes spell, or the fault
abbrev pub read_phrase : List ℕ → Result Words PhraseFault
read_phrase bytes =
    elim (phrase_walk bytes).stop [ None ↦ Ok (map spelling_of (phrase_walk bytes).words) | Some f ↦ Err f ]
