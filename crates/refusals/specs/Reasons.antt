-- What a refusal tells a person: one line.
use Rattle.std.specs.Prelude.{ℕ, List, ◌++◌, codes, decimal}
use Rattle.refusals.specs.declared.kinds.Layer.{Layer}
use Rattle.refusals.specs.declared.kinds.Layer.TheVariants.{Image, Tree, Phrase, Chart, Session}
use Rattle.refusals.specs.declared.kinds.Refusal.{Refusal}

abbrev pub layer_name : Layer → List ℕ
layer_name Image = codes "image"
layer_name Tree = codes "tree"
layer_name Phrase = codes "phrase"
layer_name Chart = codes "chart"
layer_name Session = codes "session"

-- a refusal in one line, as a person reads it
abbrev pub line : Refusal → List ℕ → List ℕ
line r reason = codes "no " ++ (decimal r.number ++ (codes " (" ++ (layer_name r.layer ++ (codes ") at " ++ (decimal r.place ++ (codes ": " ++ reason))))))
