-- What a phrase reader has left to read, and what each of its answers says of that.
use Rattle.std.specs.Prelude.{◌≡◌, ℕ, ◌+◌, ◌-◌, ◌<◌, ◌≤◌, List, [], length, take, drop, Some, None, Ok, Err, Option, Result}
use Rattle.fault.specs.declared.kinds.PhraseFault.{PhraseFault}
use Rattle.grammar.specs.PhraseWalk.{Walk, Kind, walk, stopped, finished, hand_out, most_words}
use Rattle.grammar.specs.PhraseWalk.Kind.{between, letter, neither}
use Rattle.text.specs.declared.reader.PhraseReader.{PhraseReader}
use Rattle.text.specs.declared.reader.PhraseWord.{PhraseWord}
use Rattle.text.specs.declared.reader.words.ByteKind.{ByteKind}
use Rattle.text.specs.declared.reader.words.ByteKind.TheVariants.{Blank, Letter, Neither}

abbrev pub kind_told : ByteKind → Kind
kind_told Blank = between
kind_told Letter = letter
kind_told Neither = neither

-- what is left of a walk, at a place of the phrase where a word begins or the phrase ends, after n words
abbrev pub walk_from : ℕ → ℕ → List ℕ → Walk
walk_from n p phrase = walk n p [] (drop p phrase)

abbrev pub reader_walk : PhraseReader → Walk
reader_walk r = walk_from r.words r.place r.phrase.now

-- the bytes of the phrase from place p up to place e
abbrev pub part : ℕ → ℕ → List ℕ → List ℕ
part p e phrase = take (e - p) (drop p phrase)

-- the word at place p ends before place e, and the walk goes on past the blank there; or the walk stops in it
abbrev pub Ended : ℕ → ℕ → List ℕ → Result ℕ PhraseFault → Type 0
Ended n p phrase (Ok e) =
    (p < e) × (e ≤ length phrase) × (n < most_words) × (walk_from n p phrase ≡ hand_out p (part p e phrase) (walk_from (n + 1) (e + 1) phrase))
Ended n p phrase (Err fault) = walk_from n p phrase ≡ stopped fault

-- nothing is left; a word is handed out, and the rest stays; or the walk stops here, and the reader is as it was
abbrev pub Handed : List ℕ → Walk → Result (Option PhraseWord) PhraseFault → Walk → Type 0
Handed phrase before (Ok None) after = (before ≡ finished) × (after ≡ before)
Handed phrase before (Ok (Some w)) after =
    (before ≡ hand_out w.place w.text.now after) × (w.text.now ≡ part w.place (w.place + length w.text.now) phrase)
Handed phrase before (Err fault) after = (before ≡ stopped fault) × (after ≡ before)

-- how many words were handed out, before and after an answer
abbrev pub Counted : ℕ → Result (Option PhraseWord) PhraseFault → ℕ → Type 0
Counted n (Ok None) m = m ≡ n
Counted n (Ok (Some w)) m = m ≡ n + 1
Counted n (Err fault) m = m ≡ n
