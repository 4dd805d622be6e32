-- What an image language holds, what a new one means, and what loading leaves.
use Rattle.std.specs.Prelude.{◌≡◌, ℕ, List, [], ◌∷◌, Some, None, Ok, Err, vec_items, Result}
use Rattle.demands.specs.Check.{image_check}
use Rattle.grammar.specs.Languages.{Meaning}
use Rattle.image.specs.declared.language.ImageLanguage.{ImageLanguage}
use Rattle.image.specs.declared.load.LoadFault.{LoadFault}
use Rattle.image.specs.declared.load.LoadFault.TheVariants.{Image, Memory}

-- the bytes that it was loaded with
abbrev pub bytes_of : ImageLanguage → List ℕ
bytes_of l = vec_items l.bytes

-- one category of dimension 1, one function without arguments, no words and no rules
abbrev pub new_meaning : Meaning
new_meaning = record {
  signature = record { categories = 1; start = 0; functions = record { result = 0; arguments = [] } ∷ [] };
  dimensions = 1 ∷ [];
  words = [];
  rule = λ f forms. None;
}

-- sound bytes are held from then on; a refusal leaves the language as it was
abbrev pub Loaded : List ℕ → List ℕ → Result (Unit {0}) LoadFault → List ℕ → Type 0
Loaded bytes before (Ok done) after = (image_check bytes ≡ None) × (after ≡ bytes)
Loaded bytes before (Err (Image fault)) after = (image_check bytes ≡ Some fault) × (after ≡ before)
Loaded bytes before (Err Memory) after = (image_check bytes ≡ None) × (after ≡ before)
