-- Mute nodes: a node whose arguments all have forms, but whose rule is missing.
use Rattle.std.specs.Prelude.{◌≡◌, ℕ, suc, ◌+◌, ◌<◌, ◌⊎◌, List, map, length, Some, None}
use Rattle.grammar.specs.Languages.{Meaning}
use Rattle.grammar.specs.Linearization.{Said, linearized_all, said_form}
use Rattle.grammar.specs.Trees.{Tree, Trees, code}
use Rattle.grammar.specs.Trees.Tree.{node}
use Rattle.grammar.specs.Trees.Trees.{none, more}

-- u is the subtree whose root stands at place i of the tree's code
abbrev mutual
  pub At : Tree → ℕ → Tree → Type 0
  At (node f ts) i u = ((i ≡ 0) × (u ≡ node f ts)) ⊎ ((j : ℕ) × (i ≡ suc j) × AtIn ts j u)

  pub AtIn : Trees → ℕ → Tree → Type 0
  AtIn none i u = ⊥
  AtIn (more t ts) i u = At t i u ⊎ ((j : ℕ) × (i ≡ length (code t) + j) × AtIn ts j u)

-- a row of trees stands in the code from place i on, each tree after the one before it
abbrev pub RowAt : Tree → ℕ → Trees → Type 0
RowAt t i none = Unit {0}
RowAt t i (more u us) = At t i u × RowAt t (i + length (code u)) us

-- the arguments all have forms, and there is no rule for these
abbrev pub MuteNode : Meaning → Tree → Type 0
MuteNode m (node f ts) =
    (arguments : List Said) × (linearized_all m ts ≡ Some arguments) × (m.rule f (map said_form arguments) ≡ None)

-- the first mute node of the tree stands at place i of its code
pub record FirstMute (m : Meaning) (t : Tree) (i : ℕ) : Type 0 where
  pub subtree : Tree
  pub there : At t i subtree
  pub mute : MuteNode m subtree
  pub none_before : (j : ℕ) (u : Tree) → j < i → At t j u → MuteNode m u → ⊥

-- the first mute node of a row of trees stands at place i of their codes
pub record FirstMuteIn (m : Meaning) (ts : Trees) (i : ℕ) : Type 0 where
  pub subtree : Tree
  pub there : AtIn ts i subtree
  pub mute : MuteNode m subtree
  pub none_before : (j : ℕ) (u : Tree) → j < i → AtIn ts j u → MuteNode m u → ⊥
