-- What looking a rule up answers.
use Rattle.std.specs.Prelude.{◌≡◌, ℕ, ◌<◌, List, Some, None, Option, ◌≢◌}
use Rattle.view.specs.Grammar.{key, image_meaning, rule_entry}
use Rattle.view.specs.Layout.{rules}
use Rattle.grammar.specs.Questions.{asked}
use Rattle.image.specs.declared.lookup.Lookup.{Lookup}
use Rattle.image.specs.declared.lookup.Lookup.TheVariants.{OutOfRange, Missing, Entry}

-- the number of the rule with the key, where there is one
abbrev pub HasKey : List ℕ → List ℕ → Option ℕ → Type 0
HasKey b wanted (Some i) = (i < rules b) × (key b i ≡ wanted)
HasKey b wanted None = (i : ℕ) → i < rules b → key b i ≢ wanted

-- a question outside its range, a rule that is missing, or the number of its entry
abbrev pub LookedUp : List ℕ → ℕ → List ℕ → Lookup → Type 0
LookedUp b f forms OutOfRange = asked (image_meaning b) f forms ≡ None
LookedUp b f forms Missing = (arguments : List ℕ) × (asked (image_meaning b) f forms ≡ Some arguments) × ((image_meaning b).rule f arguments ≡ None)
LookedUp b f forms (Entry i) =
    (arguments : List ℕ) × (asked (image_meaning b) f forms ≡ Some arguments) × (i < rules b) × ((image_meaning b).rule f arguments ≡ Some (rule_entry b i).rule)

-- the number of the entry, if the rule has one
abbrev pub entry_of : Lookup → Option ℕ
entry_of OutOfRange = None
entry_of Missing = None
entry_of (Entry i) = Some i
