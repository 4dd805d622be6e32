-- Small letters: the capitals of each word are made small, and all else is as below.
use Rattle.std.specs.Prelude.{ℕ, ◌+◌, cond, ◌&&◌, map, nat_le}
use Rattle.grammar.specs.Languages.{Meaning, Spelling}

-- a byte, where it is one of the capitals A to Z as the small letter
abbrev pub small : ℕ → ℕ
small b = cond (nat_le 0x41 b && nat_le b 0x5A) (b + 0x20) b

abbrev pub small_word : Spelling → Spelling
small_word w = map small w

abbrev pub small_letters : Meaning → Meaning
small_letters m = record { signature = m.signature; dimensions = m.dimensions; words = map small_word m.words; rule = m.rule }
