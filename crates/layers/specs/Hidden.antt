-- Hiding: the rules of hidden functions are missing, and all else is as below.
use Rattle.std.specs.Prelude.{ℕ, Bool, false, cond, None, slice_index_or}
use Rattle.grammar.specs.Languages.{Meaning}
use Rattle.layers.specs.declared.hiding.Hiding.{Hiding}

-- the functions that are hidden
abbrev pub hides_of : {L : Type 0} → Hiding L → ℕ → Bool
hides_of h f = slice_index_or h.marks f false

abbrev pub hidden : (ℕ → Bool) → Meaning → Meaning
hidden hides m =
    record { signature = m.signature; dimensions = m.dimensions; words = m.words; rule = λ f forms. cond (hides f) None (m.rule f forms) }
