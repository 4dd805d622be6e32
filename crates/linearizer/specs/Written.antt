-- What writing the text of a tree needs, and what it leaves.
use Rattle.std.specs.Prelude.{◌≡◌, ℕ, suc, ◌-◌, ◌≤◌, true, List, length, is_some, Some, Ok}
use Rattle.grammar.specs.Languages.{Meaning}
use Rattle.grammar.specs.Linearization.{Said, linearized, linearized_all, main_constituent, spaced}
use Rattle.grammar.specs.Trees.{Tree, Trees}
use Rattle.grammar.specs.Trees.Tree.{node}
use Rattle.saying.specs.Mute.{At}
use Rattle.measure.specs.declared.kinds.NodeMeasure.{NodeMeasure}
use Rattle.measure.specs.declared.table.MeasureTable.{MeasureTable}
use Rattle.measure.specs.Measured.{measured_at}
use Rattle.measure.specs.Sizes.{forms_said, measure_of, padded, row_places}
use Rattle.writer.specs.declared.WordWriter.{WordWriter}
use Rattle.writer.specs.PutDown.{put_down, Grown, some_words}
use Rattle.tree.specs.declared.code.TreeCode.{TreeCode}
use Rattle.tree.specs.Codes.{IsTree}
use Rattle.tree.specs.Read.{bytes_of}

-- how many bytes more a writer can put down
abbrev pub room_left : WordWriter → ℕ
room_left w = length w.part.now - w.used

-- of the node of function f over the trees ts, at place j of a code: the places and the forms of its arguments, and its measure, where it has a linearization
abbrev pub NodeTold : Meaning → ℕ → ℕ → Trees → NodeMeasure → Type 0
NodeTold m j f ts n =
    (n.places ≡ padded (row_places (suc j) ts))
    × (n.forms ≡ padded (forms_said (linearized_all m ts)))
    × ((s : Said) → linearized m (node f ts) ≡ Some s → n.said ≡ Ok (measure_of s))

-- each node of the tree is told at its place in the table
abbrev pub NodesTold : Meaning → Tree → MeasureTable → Type 0
NodesTold m t table = (j f : ℕ) (ts : Trees) → At t j (node f ts) → NodeTold m j f ts (measured_at table j)

-- the tree of a code is said in the language, and its nodes are told in the table
abbrev pub SaidTree : Meaning → TreeCode → MeasureTable → Type 0
SaidTree m tree table =
    (t : Tree) → IsTree m.signature (bytes_of tree) t → (is_some (linearized m t) ≡ true) × NodesTold m t table

-- its text has at most so many bytes
abbrev pub HasRoom : Meaning → TreeCode → ℕ → Type 0
HasRoom m tree room =
    (t : Tree) (s : Said) → IsTree m.signature (bytes_of tree) t → linearized m t ≡ Some s → length (spaced (main_constituent s)) ≤ room

-- the writer has put down the text of the tree
abbrev pub Wrote : Meaning → TreeCode → WordWriter → WordWriter → Type 0
Wrote m tree before after =
    (t : Tree) (s : Said) → IsTree m.signature (bytes_of tree) t → linearized m t ≡ Some s → Grown (spaced (main_constituent s)) (some_words (main_constituent s)) before after

-- the text of the tree stands at the front of the bytes, and every byte past it stays
abbrev pub AtFront : Meaning → TreeCode → List ℕ → List ℕ → Type 0
AtFront m tree before after =
    (t : Tree) (s : Said) → IsTree m.signature (bytes_of tree) t → linearized m t ≡ Some s → after ≡ put_down before 0 (spaced (main_constituent s))
