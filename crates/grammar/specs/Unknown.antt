-- Words of a phrase that a language does not have.
use Rattle.std.specs.Prelude.{◌≡◌, ℕ, ◌<◌, Some}
use Rattle.std.specs.List.{slice_get}
use Rattle.grammar.specs.Languages.{Meaning, Spelling, Words}
use Rattle.grammar.specs.Lists.{Holds}

-- word n of the phrase is the first that is equal to no word of the language
pub record FirstUnknown (m : Meaning) (phrase : Words) (n : ℕ) : Type 0 where
  pub word : Spelling
  pub there : slice_get phrase n ≡ Some word
  pub unknown : Holds m.words word → ⊥
  pub known_before : (i : ℕ) (w : Spelling) → i < n → slice_get phrase i ≡ Some w → Holds m.words w
