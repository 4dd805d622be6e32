-- Saying a tree: from its measures to the answer.
use Rattle.std.proofs.Common.{◌≡◌, ℕ, ◌+◌, ◌-◌, ◌<◌, ◌≤◌, List, [], ◌++◌, length, take, drop, is_some, Some, Ok, Err, sym, refl, ap, ◌∙◌, subst, append-nil, arith}
use Rattle.std.proofs.lemmas.List.{drop_all}
use Rattle.fault.specs.declared.kinds.SayFault.{SayFault}
use Rattle.fault.specs.declared.kinds.SayFault.TheVariants.{OtherSignature, Mute, NoRoom}
use Rattle.grammar.specs.Languages.{Meaning}
use Rattle.grammar.specs.Linearization.{Said, linearized, main_constituent, spaced}
use Rattle.grammar.specs.Trees.{Tree}
use Rattle.grammar.specs.Trees.Tree.{node}
use Rattle.saying.specs.Sizes.{text_length}
use Rattle.saying.proofs.Lengths.{text_length_by_sums}
use Rattle.saying.proofs.Places.{at_start}
use Rattle.measure.specs.declared.kinds.NodeMeasure.{NodeMeasure}
use Rattle.measure.specs.declared.table.MeasureTable.{MeasureTable}
use Rattle.measure.specs.Measured.{measured_at}
use Rattle.measure.specs.Scanned.{MeasuredAs}
use Rattle.measure.specs.Sizes.{measure_of}
use Rattle.measure.proofs.Rows.{said_measure}
use Rattle.writer.specs.PutDown.{put_down}
use Rattle.tree.specs.declared.code.TreeCode.{TreeCode}
use Rattle.tree.specs.Codes.{IsTree}
use Rattle.tree.specs.Read.{bytes_of, tree_signature}
use Rattle.tree.proofs.Filled.{code_is_tree}
use Rattle.linearizer.specs.declared.text.TextFault.TheVariants.{Unsaid}
use Rattle.linearizer.specs.Says.{SaysCode, TextOf}
use Rattle.linearizer.specs.Texts.{TextTold}
use Rattle.linearizer.specs.Written.{AtFront, HasRoom, NodesTold, SaidTree}

-- the whole tree's measure stands at the front of the table
pub root_measure : (m : Meaning) (t : Tree) (s : Said) (table : MeasureTable) (n : NodeMeasure) → NodesTold m t table → linearized m t ≡ Some s → n ≡ measured_at table 0 → n.said ≡ Ok (measure_of s)
root_measure m (node f ts) s table n told said is = ap (λ (x : NodeMeasure). x.said) is ∙ (told 0 f ts (at_start (node f ts))).2 s said

-- what is measured is said, and each node is told
pub measured_said : (m : Meaning) (code : TreeCode) (table : MeasureTable) → MeasuredAs m code (Ok table) → SaidTree m code table
measured_said m code table told t is = let all = told.1 t is in (
  ap is_some all.1,
  λ j f ts at.
      let here = all.2 j (node f ts) at in
      (here.places, here.forms, λ s e. said_measure m j (node f ts) s (measured_at table j) here e),
)

-- the tree of a code, in a language of its signature
code_tree : (m : Meaning) (code : TreeCode) → tree_signature code ≡ m.signature → (t : Tree) × IsTree (tree_signature code) (bytes_of code) t × IsTree m.signature (bytes_of code) t
code_tree m code same = let tree = code_is_tree code in (tree.0, tree.1, subst (λ s. IsTree s (bytes_of code) tree.0) same tree.1)

-- what is not measured is refused, and the page stays
pub unmeasured_refused : (m : Meaning) (code : TreeCode) (page : List ℕ) (start : ℕ) (fault : SayFault) → MeasuredAs m code (Err fault) → SaysCode m code page start (Err fault) page
unmeasured_refused m code page start OtherSignature told =
    let tree = code_is_tree code in record { tree = tree.0; is = tree.1; says = (told, refl) }
unmeasured_refused m code page start (Mute i) told =
    let tree = code_tree m code told.0 in record { tree = tree.0; is = tree.1; says = (told.0, told.1 tree.0 tree.2, refl) }
unmeasured_refused m code page start (NoRoom n) told = absurd told

module _ (m : Meaning) (code : TreeCode) (table : MeasureTable) (told : MeasuredAs m code (Ok table)) (n : ℕ) (long : (t : Tree) (s : Said) → IsTree m.signature (bytes_of code) t → linearized m t ≡ Some s → n ≡ text_length (main_constituent s)) where
  -- the sums are the length of the text
  text_is : (t : Tree) (s : Said) → IsTree m.signature (bytes_of code) t → linearized m t ≡ Some s → n ≡ length (spaced (main_constituent s))
  text_is t s is said = long t s is said ∙ sym (text_length_by_sums (main_constituent s))

  -- a text that does not fit is refused with its length
  pub long_refused : (page : List ℕ) (start : ℕ) → length page < start + n → SaysCode m code page start (Err (NoRoom n)) page
  long_refused page start past =
      let tree = code_tree m code told.0 in
      let said = told.1 tree.0 tree.2 in
      let text : List ℕ = spaced (main_constituent said.0) in
      record {
        tree = tree.0;
        is = tree.1;
        says = (told.0, (text, (main_constituent said.0, (said.0, said.1, refl), refl), text_is tree.0 said.0 tree.2 said.1, past, refl));
      }

  -- a text that fits has room
  pub fitting_room : (room : ℕ) → n ≤ room → HasRoom m code room
  fitting_room room fits t s is said = omega (arith, text_is t s is said)

  -- and then stands on the page
  pub written_said : (page : List ℕ) (start : ℕ) (after part : List ℕ) → start + n ≤ length page → AtFront m code (take (length page - start) (drop start page)) part → ((text : List ℕ) → part ≡ put_down (take (length page - start) (drop start page)) 0 text → after ≡ put_down page start text) → SaysCode m code page start (Ok n) after
  written_said page start after part fits front on_page =
      let tree = code_tree m code told.0 in
      let said = told.1 tree.0 tree.2 in
      let text : List ℕ = spaced (main_constituent said.0) in
      record {
        tree = tree.0;
        is = tree.1;
        says = (told.0, (text, (main_constituent said.0, (said.0, said.1, refl), refl), text_is tree.0 said.0 tree.2 said.1, fits, on_page text (front tree.0 said.0 tree.2 said.1)));
      }

-- what is not measured has no text
pub unmeasured_text : {V : Type 0} (bytes : V → List ℕ) (m : Meaning) (code : TreeCode) (fault : SayFault) → MeasuredAs m code (Err fault) → TextTold bytes m code (Err (Unsaid fault))
unmeasured_text bytes m code OtherSignature told = told
unmeasured_text bytes m code (Mute i) told = let tree = code_tree m code told.0 in (told.0, (tree.0, tree.1, told.1 tree.0 tree.2))
unmeasured_text bytes m code (NoRoom n) told = absurd told

-- a text that fills what it is written on is all that stands there
pub filled_text : (m : Meaning) (code : TreeCode) (table : MeasureTable) → MeasuredAs m code (Ok table) → (n : ℕ) → ((t : Tree) (s : Said) → IsTree m.signature (bytes_of code) t → linearized m t ≡ Some s → n ≡ text_length (main_constituent s)) → (before after : List ℕ) → length before ≡ n → AtFront m code before after → (length after ≡ n) × (tree_signature code ≡ m.signature) × ((t : Tree) × IsTree (tree_signature code) (bytes_of code) t × TextOf m t after)
filled_text m code table told n long before after room front =
    let tree = code_tree m code told.0 in
    let said = told.1 tree.0 tree.2 in
    let text : List ℕ = spaced (main_constituent said.0) in
    let whole : length text ≡ n = sym (text_is m code table told n long tree.0 said.0 tree.2 said.1) in
    let none : drop (0 + length text) before ≡ [] = drop_all (0 + length text) before (omega arith) in
    let is : after ≡ text = front tree.0 said.0 tree.2 said.1 ∙ ap (λ rest. text ++ rest) none ∙ append-nil text in
    (ap length is ∙ whole, told.0, (tree.0, tree.1, (main_constituent said.0, (said.0, said.1, refl), is)))
