-- What a refusal says: its number, its layer and its place.
use Rattle.std.specs.Prelude.{ℕ}
use Rattle.refusals.specs.declared.kinds.Layer.{Layer}
use Rattle.refusals.specs.declared.kinds.Refusal.{Refusal}

abbrev pub refuse : ℕ → Layer → ℕ → Refusal
refuse n l p = record { number = n; layer = l; place = p }
