-- Strings as places of a phrase: the words that stand there, and what is added to them.
use Rattle.std.specs.Prelude.{◌≡◌, ℕ, ◌+◌, ◌<◌, ◌≤◌, List, [], ◌∷◌, ◌++◌, length, Some, None, Option, slice_index}
use Rattle.std.specs.List.{slice_get}
use Rattle.std.specs.Option.{option_map}
use Rattle.tables.specs.Held.{held}
use Rattle.grammar.specs.Languages.{Spelling, Words}
use Rattle.congruence.specs.NodeItems.{IsWindowOf, put_together}
use Rattle.phrase.specs.Places.{SameAt}
use Rattle.phrase.specs.Spelled.{words_of}
use Rattle.windows.specs.declared.places.PhrasePlaces.{PhrasePlaces}
use Rattle.windows.specs.declared.places.Places.{Places}

abbrev pub one_word : Spelling → Words
one_word w = w ∷ []

-- the word at a place, as a string; none at a place that the phrase does not have
abbrev pub word_at : Words → ℕ → Option Words
word_at phrase i = option_map one_word (slice_get phrase i)

-- the words at places, from left to right
abbrev pub words_at : Words → List ℕ → Option Words
words_at phrase [] = Some []
words_at phrase (i ∷ is) = put_together (word_at phrase i) (words_at phrase is)

abbrev pub places_of : Places → List ℕ
places_of p = held p.at

-- the words of a phrase at the places
abbrev pub string_of : Words → Places → Option Words
string_of phrase p = words_at phrase (places_of p)

abbrev pub own_places : PhrasePlaces → List ℕ
own_places p = places_of p.places

-- the words of the phrase that a string holds
abbrev pub phrase_of : PhrasePlaces → Words
phrase_of p = words_of p.phrase.now

abbrev pub own_string : PhrasePlaces → Option Words
own_string p = string_of (phrase_of p) p.places

-- a place is added while there are fewer than n
abbrev pub Pushed : ℕ → List ℕ → ℕ → Option (Unit {0}) → List ℕ → Type 0
Pushed n before i (Some done) after = (length before < n) × (after ≡ before ++ i ∷ [])
Pushed n before i None after = (n ≤ length before) × (after ≡ before)

-- a string is added at the end of what was there; or the two together do not occur in the phrase
abbrev pub Added : Words → Option Words → Option Words → Option (Unit {0}) → Option Words → Type 0
Added phrase before new (Some done) after = after ≡ put_together before new
Added phrase before new None after = IsWindowOf phrase (put_together before new) None

-- the same of a string that holds its phrase
abbrev pub AddedTo : PhrasePlaces → Option Words → Option (Unit {0}) → PhrasePlaces → Type 0
AddedTo before new result after = Added (phrase_of before) (own_string before) new result (own_string after)

-- the phrase has the words of the places from place s on
pub record SameFrom (phrase : Words) (is : List ℕ) (s : ℕ) : Type 0 where
  pub same : (k : ℕ) → k < length is → SameAt phrase (s + k) (slice_index is k)
