-- Readings: the trees that a phrase can mean, and the full list of them.
use Rattle.std.specs.Prelude.{ℕ, ◌≤◌, ◌↔◌, List}
use Rattle.grammar.specs.Drafts.{Draft, Completes}
use Rattle.grammar.specs.Languages.{Meaning, Words}
use Rattle.grammar.specs.Linearization.{Linearizes}
use Rattle.grammar.specs.Lists.{Holds}
use Rattle.grammar.specs.Order.{Ascending}
use Rattle.grammar.specs.Trees.{Tree, depth, HasCategory}

-- the tree has the start category, completes the draft, is within the depth and linearizes to the phrase
pub record Reading (m : Meaning) (draft : Draft) (phrase : Words) (d : ℕ) (t : Tree) : Type 0 where
  pub start : HasCategory m.signature m.signature.start t
  pub completes : Completes draft t
  pub within : depth t ≤ d
  pub linearizes : Linearizes m t phrase

-- the full list: exactly the readings, in tree order
pub record FullList (m : Meaning) (draft : Draft) (phrase : Words) (d : ℕ) (readings : List Tree) : Type 0 where
  pub ascending : Ascending readings
  pub exactly : (t : Tree) → Holds readings t ↔ Reading m draft phrase d t
