-- The words that a phrase holds.
use Rattle.std.specs.Prelude.{◌≡◌, ℕ, List, map, Ok, Err, Result}
use Rattle.std.specs.Borrow.{Bor}
use Rattle.tables.specs.Held.{held}
use Rattle.fault.specs.declared.kinds.PhraseFault.{PhraseFault}
use Rattle.grammar.specs.Languages.{Spelling, Words}
use Rattle.grammar.specs.PhraseWalk.{read_phrase}
use Rattle.phrase.specs.declared.words.Phrase.{Phrase}

-- the bytes of one word
abbrev pub bytes_of : Bor (List ℕ) → Spelling
bytes_of word = word.now

abbrev pub words_of : Phrase → Words
words_of p = map bytes_of (held p.words)

-- the phrase that the bytes spell, or its fault
abbrev pub ReadTo : List ℕ → Result Phrase PhraseFault → Type 0
ReadTo bytes (Ok p) = read_phrase bytes ≡ Ok (words_of p)
ReadTo bytes (Err fault) = read_phrase bytes ≡ Err fault
