-- The laws of tree order and of full lists, over every signature, language, draft, phrase and depth.
use Rattle.std.specs.Prelude.{◌≡◌, ℕ, ◌⊎◌, List}
use Rattle.grammar.specs.Drafts.{Draft}
use Rattle.grammar.specs.Languages.{Meaning, Words}
use Rattle.grammar.specs.Order.{Before}
use Rattle.grammar.specs.Readings.{FullList}
use Rattle.grammar.specs.Signatures.{Signature}
use Rattle.grammar.specs.Trees.{Tree, code, HasCategory}

-- tree order is strict: no tree comes before itself, and what comes before a tree comes before all that the tree comes before
pub record OrderIsStrict : Type 0 where
  pub irreflexive : (t : Tree) → Before (code t) (code t) → ⊥
  pub transitive : (t u v : Tree) → Before (code t) (code u) → Before (code u) (code v) → Before (code t) (code v)

-- tree order is total on the trees of a category
abbrev pub OrderIsTotal : Type 0
OrderIsTotal =
    (s : Signature) (c : ℕ) (t u : Tree) → HasCategory s c t → HasCategory s c u → (t ≡ u) ⊎ (Before (code t) (code u) ⊎ Before (code u) (code t))

-- two trees of a category with one code are one tree
abbrev pub CodesTellTreesApart : Type 0
CodesTellTreesApart = (s : Signature) (c : ℕ) (t u : Tree) → HasCategory s c t → HasCategory s c u → code t ≡ code u → t ≡ u

abbrev pub FullListExists : Type 0
FullListExists = (m : Meaning) (draft : Draft) (phrase : Words) (d : ℕ) → (readings : List Tree) × FullList m draft phrase d readings

abbrev pub FullListIsUnique : Type 0
FullListIsUnique =
    (m : Meaning) (draft : Draft) (phrase : Words) (d : ℕ) (readings others : List Tree) → FullList m draft phrase d readings → FullList m draft phrase d others → readings ≡ others
