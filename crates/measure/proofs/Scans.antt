-- The scan from the right: one node more, and what is then told of the whole tree.
use Rattle.std.proofs.Common.{◌≡◌, ℕ, zero, suc, ◌+◌, ◌-◌, ◌*◌, ◌<◌, ◌≤◌, List, length, get_or, set, Some, Err, sym, ap, ◌∙◌, subst, ⊎_elim, mul-le-mul_right, arith, length-append}
use Rattle.std.specs.List.{slice_get}
use Rattle.std.proofs.lemmas.List.{get_or-set_other, get_or-set_same}
use Rattle.std.proofs.lemmas.Bool.{cases_lt}
use Rattle.fault.specs.declared.kinds.SayFault.{SayFault}
use Rattle.fault.specs.declared.kinds.SayFault.TheVariants.{OtherSignature, Mute, NoRoom}
use Rattle.grammar.specs.Languages.{FunctionLawful, Lawful, Meaning}
use Rattle.grammar.specs.Trees.{Tree, Trees, code, codes, depth, deepest, HasCategory, HaveCategories}
use Rattle.grammar.specs.Trees.Tree.{node}
use Rattle.grammar.specs.Trees.Trees.{none, more}
use Rattle.draft.specs.Walks.{most}
use Rattle.saying.specs.Mute.{At, FirstMute}
use Rattle.saying.proofs.Muteness.{at_within}
use Rattle.saying.proofs.Places.{at_byte, at_category, at_depth, at_one, at_some, at_start}
use Rattle.tree.specs.declared.code.TreeCode.{TreeCode}
use Rattle.tree.specs.Codes.{IsTree}
use Rattle.tree.specs.Read.{bytes_of, tree_signature}
use Rattle.tree.proofs.Filled.{code_is_tree}
use Rattle.measure.specs.declared.kinds.Muteness.{Muteness}
use Rattle.measure.specs.declared.kinds.NodeMeasure.{NodeMeasure}
use Rattle.measure.specs.declared.table.MeasureTable.{MeasureTable}
use Rattle.measure.specs.Measured.{Measured, measured_at, MeasureOf, measures, MeasuredFrom, NodeAt, NodeMeasured}
use Rattle.measure.specs.Scanned.{MeasuredAs, MeasuredInto}
use Rattle.measure.specs.Sizes.{SaidAt, unmeasured}
use Rattle.measure.proofs.Rows.{measure_said}
use Rattle.grammar.proofs.Nth.{all_nth}

-- a code has at most as many bytes as its depth allows
mutual
  code_most : (t : Tree) (m : Meaning) → Lawful m → (c d : ℕ) → HasCategory m.signature c t → depth t ≤ d → length (code t) ≤ most d
  code_most (node f ts) m law c zero h le = absurd (omega arith)
  code_most (node f ts) m law c (suc d) h le =
      let few = (all_nth (FunctionLawful m.signature) m.signature.functions f h.0 law.signature_lawful.functions_lawful h.1).arity_range in
      omega (arith, codes_most ts m law h.0.arguments d h.3 (omega arith), mul-le-mul_right (most d) few)

  codes_most : (ts : Trees) (m : Meaning) → Lawful m → (cs : List ℕ) (d : ℕ) → HaveCategories m.signature cs ts → deepest ts ≤ d → length (codes ts) ≤ length cs * most d
  codes_most none m law cs d h le = omega arith
  codes_most (more t ts) m law cs d h le =
      let first = code_most t m law h.0 d h.3 (omega arith) in
      let rest = codes_most ts m law h.1 d h.4 (omega arith) in
      let long : length cs ≡ suc (length h.1) = ap length h.2 in
      let product : length cs * most d ≡ most d + length h.1 * most d = ap (λ n. n * most d) long ∙ omega arith in
      omega (arith, length-append (code t) (codes ts))

-- so each place of a code is one of the table
place_within : (m : Meaning) → Lawful m → (bytes : List ℕ) (t : Tree) → IsTree m.signature bytes t → (place : ℕ) → place < length bytes → place < 364
place_within m law bytes t is place lt = omega (arith, code_most t m law m.signature.start 6 is.start is.within, ap length is.coded)

module _ (m : Meaning) (law : Lawful m) (bytes : List ℕ) (t : Tree) (is : IsTree m.signature bytes t) (place : ℕ) (table : MeasureTable) (so_far : MeasuredFrom m t (suc place) table) where
  -- the node that stands at the place
  node_there : (f : ℕ) → place < length bytes → Some f ≡ slice_get bytes place → (ts : Trees) × NodeAt m t place f ts table
  node_there f lt told = by found.0 found.1
    where
      found : (u : Tree) × At t place u
      found = at_some t place (omega (arith, ap length is.coded))

      by : (u : Tree) → At t place u → (ts : Trees) × NodeAt m t place f ts table
      by (node h ts) at =
          let byte : Some f ≡ Some h = told ∙ ap (λ bs. slice_get bs place) (sym is.coded) ∙ at_byte t place h ts at in
          let same : h ≡ f = cc in
          let there = subst (λ k. At t place (node k ts)) same at in
          let of = at_category m.signature m.signature.start t place (node f ts) is.start there in (
            ts,
            record {
              there = there;
              category = of.0;
              of = of.1;
              deep = omega (arith, at_depth t place (node f ts) there, is.within);
              measured = so_far;
            },
          )

  -- one node more
  measured_more : (f : ℕ) (ts : Trees) → NodeAt m t place f ts table → (n : NodeMeasure) (after : MeasureTable) → NodeMeasured m place f ts n → measures after ≡ set (measures table) place n → MeasuredFrom m t place after
  measured_more f ts at n after told put i u le here =
      ⊎_elim
      (λ past. subst (MeasureOf m i u) (sym (ap (λ ns. get_or ns i unmeasured) put ∙ get_or-set_other (measures table) place i n unmeasured (omega arith))) (so_far i u past here))
      (λ at_place.
      let same : place ≡ i = omega arith in
      let stands : measured_at after place ≡ n = ap (λ ns. get_or ns place unmeasured) put ∙ get_or-set_same (measures table) place n unmeasured (omega (arith, table.sized, within)) in
      let one : node f ts ≡ u = at_one t place (node f ts) u at.there (subst (λ k. At t k u) (sym same) here) in
      subst (λ k. MeasureOf m k u (measured_at after k)) same (subst (λ v. MeasureOf m place v (measured_at after place)) one (subst (NodeMeasured m place f ts) (sym stands) told)))
      (cases_lt place i)
    where
      within : place < 364
      within = place_within m law bytes t is place (omega (arith, at_within t place (node f ts) at.there, ap length is.coded))

-- the scan of a code at place p is about to read the byte before it
module _ (m : Meaning) (law : Lawful m) (tree : TreeCode) (p : ℕ) (table : MeasureTable) (so_far : (t : Tree) → IsTree m.signature (bytes_of tree) t → MeasuredFrom m t p table) (some : 0 < p) (inside : p ≤ length (bytes_of tree)) where
  before : (t : Tree) → IsTree m.signature (bytes_of tree) t → MeasuredFrom m t (suc (p - 1)) table
  before t is = let on : p ≡ suc (p - 1) = omega arith in subst (λ k. MeasuredFrom m t k table) on (so_far t is)

  the_tree : tree_signature tree ≡ m.signature → (t : Tree) × IsTree m.signature (bytes_of tree) t
  the_tree same = let sound = code_is_tree tree in (sound.0, subst (λ s. IsTree s (bytes_of tree) sound.0) same sound.1)

  pub place_fits : tree_signature tree ≡ m.signature → p - 1 < 364
  place_fits same = let whole = the_tree same in place_within m law (bytes_of tree) whole.0 whole.1 (p - 1) (omega arith)

  module _ (f : ℕ) (told : Some f ≡ slice_get (bytes_of tree) (p - 1)) where
    pub next_node : tree_signature tree ≡ m.signature → (t : Tree) × (ts : Trees) × NodeAt m t (p - 1) f ts table
    next_node same =
        let whole = the_tree same in
        let there = node_there m law (bytes_of tree) whole.0 whole.1 (p - 1) table (before whole.0 whole.1) f (omega arith) told in
        (whole.0, there.0, there.1)

    pub one_node_more : (n : NodeMeasure) (after : MeasureTable) → ((u : Tree) (us : Trees) → NodeAt m u (p - 1) f us table → NodeMeasured m (p - 1) f us n) → measures after ≡ set (measures table) (p - 1) n → (t : Tree) → IsTree m.signature (bytes_of tree) t → MeasuredFrom m t (p - 1) after
    one_node_more n after found put t is =
        let there = node_there m law (bytes_of tree) t is (p - 1) table (before t is) f (omega arith) told in
        measured_more m law (bytes_of tree) t is (p - 1) table (before t is) f there.0 there.1 n after (found t there.0 there.1) put

-- nothing is measured yet
pub measured_none : (m : Meaning) (bytes : List ℕ) (t : Tree) → IsTree m.signature bytes t → (table : MeasureTable) → MeasuredFrom m t (length bytes) table
measured_none m bytes t is table i u le here = absurd (omega (arith, at_within t i u here, ap length is.coded))

-- what the table tells of the whole tree
pub whole_told : (m : Meaning) (t : Tree) (table : MeasureTable) (n : NodeMeasure) → Measured m t table → n ≡ measured_at table 0 → SaidAt m 0 t n.said
whole_told m t table n measured is = measure_said m 0 t n (subst (MeasureOf m 0 t) (sym is) (measured 0 t (at_start t)))

pub whole_mute : (m : Meaning) (t : Tree) (k : Muteness) → SaidAt m 0 t (Err k) → FirstMute m t k.node
whole_mute m t k (i, mute, at) = let same : i ≡ k.node = omega (arith, at) in subst (FirstMute m t) same mute

-- what refuses a lent table refuses the tree
pub refused_as : (m : Meaning) (tree : TreeCode) (before after : MeasureTable) (fault : SayFault) → MeasuredInto m tree before (Err fault) after → MeasuredAs m tree (Err fault)
refused_as m tree before after OtherSignature refused = refused.0
refused_as m tree before after (Mute i) refused = (refused.0, λ t is. (refused.1 t is).0)
refused_as m tree before after (NoRoom n) refused = refused
