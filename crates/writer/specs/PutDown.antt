-- What a word writer puts down in its part, and what a page holds after words are written on it.
use Rattle.std.specs.Prelude.{◌≡◌, ℕ, ◌+◌, ◌-◌, ◌^◌, ◌<◌, ◌≤◌, min, Bool, true, false, cond, List, [], ◌∷◌, ◌++◌, map, length, take, drop, Ok, Err, MatchBool, Result}
use Rattle.std.specs.Borrow.{Bor}
use Rattle.grammar.specs.Languages.{Words}
use Rattle.grammar.specs.Linearization.{blank}
use Rattle.writer.specs.declared.PageFault.{PageFault}
use Rattle.writer.specs.declared.WordWriter.{WordWriter}

-- the bytes with others put over them from a place on
abbrev pub put_down : List ℕ → ℕ → List ℕ → List ℕ
put_down bytes place more = take place bytes ++ (more ++ drop (place + length more) bytes)

-- a blank before every word but the first
abbrev pub gap : WordWriter → List ℕ
gap w = cond w.started (blank ∷ []) []

-- the writer has put these bytes down after what it had written, and every other byte stays, as does whose bytes they are; `started` tells whether a
-- word is begun
pub record Grown (more : List ℕ) (started : Bool) (before after : WordWriter) : Type 0 where
  pub fits : before.used + length more ≤ length before.part.now
  pub used : after.used ≡ before.used + length more
  pub part : after.part.now ≡ put_down before.part.now before.used more
  pub begun : after.started ≡ started
  pub lender : after.part.ghost_name ≡ before.part.ghost_name

-- these bytes do not fit, and nothing is changed
pub record Full (more : List ℕ) (before after : WordWriter) : Type 0 where
  pub full : length before.part.now < before.used + length more
  pub used : after.used ≡ before.used
  pub part : after.part.now ≡ before.part.now
  pub begun : after.started ≡ before.started
  pub lender : after.part.ghost_name ≡ before.part.ghost_name

-- true where the bytes are put down, false where they do not fit
abbrev pub Puts : List ℕ → Bool → WordWriter → Bool → WordWriter → Type 0
Puts more started before r after = MatchBool r (Grown more started before after) (Full more before after)

abbrev pub some_words : Words → Bool
some_words [] = false
some_words (w ∷ ws) = true

-- the words that lie behind references
abbrev pub spellings : List (Bor (List ℕ)) → Words
spellings ws = map (λ w. w.now) ws

-- the text stands on the page from the start place on, or does not fit, and every other byte stays; a length that is past the largest number of 64 bits is told as that number
abbrev pub OnPage : List ℕ → List ℕ → ℕ → Result ℕ PageFault → List ℕ → Type 0
OnPage text page start (Ok n) after =
    (n ≡ length text) × (start + n ≤ length page) × (after ≡ put_down page start text)
OnPage text page start (Err fault) after =
    (fault.length ≡ min (length text) (2 ^ 64 - 1)) × (length page < start + length text) × (after ≡ page)
