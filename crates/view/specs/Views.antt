-- What a view of an image shows.
use Rattle.std.specs.Prelude.{ℕ, List}
use Rattle.view.specs.declared.ImageView.{ImageView}

-- the image's bytes
abbrev pub image : ImageView → List ℕ
image v = v.bytes.now
