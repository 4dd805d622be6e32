-- The law of images: the grammar that sound bytes state keeps the law of languages.
use Rattle.std.specs.Prelude.{◌≡◌, ℕ, List, None}
use Rattle.demands.specs.Check.{image_check}
use Rattle.view.specs.Grammar.{image_meaning}
use Rattle.grammar.specs.Languages.{Lawful}

abbrev pub SoundImagesAreLawful : Type 0
SoundImagesAreLawful = (b : List ℕ) → image_check b ≡ None → Lawful (image_meaning b)
