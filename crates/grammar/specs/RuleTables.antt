-- Rules written out as a table: one entry for a function and the forms of its arguments.
use Rattle.std.specs.Prelude.{ℕ, cond, ◌&&◌, List, [], ◌∷◌, Some, None, Option, ◌==◌}
use Rattle.std.specs.Str.{bytes_eq}
use Rattle.grammar.specs.Languages.{Rule}

pub record Entry : Type 0 where
  pub function : ℕ
  pub forms : List ℕ
  pub rule : Rule

-- the rule of the entry for the function and the forms, where there is one
abbrev pub from_table : List Entry → ℕ → List ℕ → Option Rule
from_table [] f forms = None
from_table (e ∷ es) f forms = cond (f == e.function && bytes_eq forms e.forms) (Some e.rule) (from_table es f forms)
