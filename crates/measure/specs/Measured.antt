-- What measuring a tree in a language answers.
use Rattle.std.specs.Prelude.{◌≡◌, ℕ, suc, ◌+◌, ◌≤◌, List, length, Some, Ok, Err, Result, slice_index_or}
use Rattle.grammar.specs.Languages.{Meaning}
use Rattle.grammar.specs.Linearization.{Said, linearized_all}
use Rattle.grammar.specs.Trees.{Tree, Trees, code, codes, depth, HasCategory}
use Rattle.grammar.specs.Trees.Tree.{node}
use Rattle.saying.specs.Mute.{At, FirstMuteIn}
use Rattle.tree.specs.Codes.{greatest_depth}
use Rattle.measure.specs.declared.kinds.Measure.{Measure}
use Rattle.measure.specs.declared.kinds.Muteness.{Muteness}
use Rattle.measure.specs.declared.kinds.NodeMeasure.{NodeMeasure}
use Rattle.measure.specs.declared.kinds.Row.{Row}
use Rattle.measure.specs.declared.table.MeasureTable.{MeasureTable}
use Rattle.measure.specs.Sizes.{forms_said, padded, row_places, SaidAt, unmeasured}
use Rattle.measure.specs.Sums.{argument_measures}

-- the nodes' measures, by their places in the code
abbrev pub measures : MeasureTable → List NodeMeasure
measures t = t.nodes

-- the measure that stands at a place
abbrev pub measured_at : MeasureTable → ℕ → NodeMeasure
measured_at t place = slice_index_or (measures t) place unmeasured

-- of the node of function f over the trees ts, at place j of a code: where the code of its tree ends, the places and the forms of its arguments, and what is told of it
pub record NodeMeasured (m : Meaning) (j f : ℕ) (ts : Trees) (n : NodeMeasure) : Type 0 where
  pub end : n.end ≡ j + length (code (node f ts))
  pub places : n.places ≡ padded (row_places (suc j) ts)
  pub forms : n.forms ≡ padded (forms_said (linearized_all m ts))
  pub said : SaidAt m j (node f ts) n.said

abbrev pub MeasureOf : Meaning → ℕ → Tree → NodeMeasure → Type 0
MeasureOf m j (node f ts) n = NodeMeasured m j f ts n

-- each node of the tree from place j of its code on has its measure at its place
abbrev pub MeasuredFrom : Meaning → Tree → ℕ → MeasureTable → Type 0
MeasuredFrom m t j table = (i : ℕ) (u : Tree) → j ≤ i → At t i u → MeasureOf m i u (measured_at table i)

-- each node of the tree has its measure at its place
abbrev pub Measured : Meaning → Tree → MeasureTable → Type 0
Measured m t table = (j : ℕ) (u : Tree) → At t j u → MeasureOf m j u (measured_at table j)

-- the node of function f over the trees ts stands at a place of the tree's code, and every node after it is measured
pub record NodeAt (m : Meaning) (t : Tree) (place f : ℕ) (ts : Trees) (table : MeasureTable) : Type 0 where
  pub there : At t place (node f ts)
  pub category : ℕ
  pub of : HasCategory m.signature category (node f ts)
  pub deep : depth (node f ts) ≤ greatest_depth
  pub measured : MeasuredFrom m t (suc place) table

-- what is told of trees side by side whose codes begin at place j: their measures, if each has a linearization, or the first mute node among them
abbrev pub RowSaid : Meaning → ℕ → Trees → Result (List Measure) Muteness → Type 0
RowSaid m j ts (Ok ms) = (all : List Said) × (linearized_all m ts ≡ Some all) × (ms ≡ argument_measures all)
RowSaid m j ts (Err muteness) = (i : ℕ) × FirstMuteIn m ts i × (muteness.node ≡ j + i)

-- of trees side by side: where their codes end, their places, and what is told of them
pub record RowMeasured (m : Meaning) (j : ℕ) (ts : Trees) (r : Row) : Type 0 where
  pub end : r.end ≡ j + length (codes ts)
  pub places : r.places ≡ padded (row_places j ts)
  pub said : RowSaid m j ts r.said
