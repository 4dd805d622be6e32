-- Sizes: how many words a string has, how many bytes these have, and how long their text is.
use Rattle.std.specs.Prelude.{ℕ, ◌+◌, ◌-◌, [], ◌∷◌, length}
use Rattle.grammar.specs.Languages.{Words}

-- the bytes of all words together, blanks left out
abbrev pub spelled_bytes : Words → ℕ
spelled_bytes [] = 0
spelled_bytes (w ∷ ws) = length w + spelled_bytes ws

-- the length of the text: the words' bytes, and a blank between each two words
abbrev pub text_length : Words → ℕ
text_length ws = spelled_bytes ws + (length ws - 1)
