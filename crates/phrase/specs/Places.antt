-- Places of a phrase: where a word stands first, and where the first word is that a language does not have.
use Rattle.std.specs.Prelude.{◌≡◌, ℕ, ◌<◌, Some, None, Option, ◌≢◌}
use Rattle.std.specs.List.{slice_get}
use Rattle.grammar.specs.Languages.{Meaning, Spelling, Words}
use Rattle.grammar.specs.Lists.{Holds}
use Rattle.grammar.specs.Unknown.{FirstUnknown}

-- two places of the phrase have the same word
abbrev pub SameAt : Words → ℕ → ℕ → Type 0
SameAt phrase i j = (w : Spelling) × (slice_get phrase i ≡ Some w) × (slice_get phrase j ≡ Some w)

-- the word stands at place i, and at none before
pub record FirstPlace (phrase : Words) (w : Spelling) (i : ℕ) : Type 0 where
  pub there : slice_get phrase i ≡ Some w
  pub none_before : (j : ℕ) → j < i → slice_get phrase j ≢ Some w

-- the first place of a word that may be missing; none where it is missing or stands nowhere
abbrev pub PlaceOf : Words → Option Spelling → Option ℕ → Type 0
PlaceOf phrase o (Some i) = (w : Spelling) × (o ≡ Some w) × FirstPlace phrase w i
PlaceOf phrase o None = (w : Spelling) → o ≡ Some w → (j : ℕ) → slice_get phrase j ≢ Some w

-- the first word that the language does not have; none where it has every word of the phrase
abbrev pub UnknownAt : Meaning → Words → Option ℕ → Type 0
UnknownAt m phrase (Some n) = FirstUnknown m phrase n
UnknownAt m phrase None = (i : ℕ) (w : Spelling) → slice_get phrase i ≡ Some w → Holds m.words w
