-- The row of a node's arguments: none, one, two or three trees side by side, found one after the other.
use Rattle.std.proofs.Common.{◌≡◌, ℕ, ◌+◌, ◌≤◌, List, [], ◌∷◌, ◌++◌, length, Some, Ok, Err, Result, sym, refl, ap, ◌∙◌, subst, arith, length-append}
use Rattle.grammar.specs.Languages.{Meaning}
use Rattle.grammar.specs.Linearization.{Said, linearized, linearized_all, nothing_said, said_more}
use Rattle.grammar.specs.Signatures.{Signature}
use Rattle.grammar.specs.Trees.{Tree, Trees, code, HaveCategories}
use Rattle.grammar.specs.Trees.Tree.{node}
use Rattle.grammar.specs.Trees.Trees.{none, more}
use Rattle.saying.specs.Mute.{At, RowAt}
use Rattle.saying.proofs.Muteness.{further_on, in_front, said_is_not_mute}
use Rattle.measure.specs.declared.kinds.Measure.{Measure}
use Rattle.measure.specs.declared.kinds.Muteness.{Muteness}
use Rattle.measure.specs.declared.kinds.NodeMeasure.{NodeMeasure}
use Rattle.measure.specs.declared.kinds.Row.{Row}
use Rattle.measure.specs.declared.table.MeasureTable.{MeasureTable}
use Rattle.measure.specs.Measured.{measured_at, MeasuredFrom, MeasureOf, RowMeasured, RowSaid}
use Rattle.measure.specs.Sizes.{measure_of, SaidAt}
use Rattle.measure.specs.Sums.{all_three}

-- what a node's measure says of its tree
pub measure_end : (m : Meaning) (j : ℕ) (u : Tree) (n : NodeMeasure) → MeasureOf m j u n → n.end ≡ j + length (code u)
measure_end m j (node f ts) n is = is.end

pub measure_said : (m : Meaning) (j : ℕ) (u : Tree) (n : NodeMeasure) → MeasureOf m j u n → SaidAt m j u n.said
measure_said m j (node f ts) n is = is.said

-- a tree that is said has its measure
pub said_measure : (m : Meaning) (j : ℕ) (u : Tree) (s : Said) (n : NodeMeasure) → MeasureOf m j u n → linearized m u ≡ Some s → n.said ≡ Ok (measure_of s)
said_measure m j u s n is said = by n.said (measure_said m j u n is)
  where
    by : (r : Result Measure Muteness) → SaidAt m j u r → r ≡ Ok (measure_of s)
    by (Ok a) (z, told, same) = let one : z ≡ s = cc (told, said) in ap Ok (same ∙ ap measure_of one)
    by (Err k) (i, mute, at) = absurd (said_is_not_mute m u s i said mute)

abbrev pub nothing_told : Result Measure Muteness
nothing_told = Ok (measure_of nothing_said)

module _ (m : Meaning) where
  both_said : (u : Tree) (us : Trees) (s : Said) (all : List Said) → linearized m u ≡ Some s → linearized_all m us ≡ Some all → linearized_all m (more u us) ≡ Some (s ∷ all)
  both_said u us s all e f = ap (λ o. said_more o (linearized_all m us)) e ∙ ap (said_more (Some s)) f

  -- a tree of the row has a mute node: the first one, or one after it
  first_mute : (j : ℕ) (u : Tree) (us : Trees) (k : Muteness) → SaidAt m j u (Err k) → RowSaid m j (more u us) (Err k)
  first_mute j u us k (i, mute, at) = (i, in_front m u us i mute, at)

  later_mute : (j : ℕ) (u : Tree) (us : Trees) (s : Said) (k : Muteness) → linearized m u ≡ Some s → RowSaid m (j + length (code u)) us (Err k) → RowSaid m j (more u us) (Err k)
  later_mute j u us s k said (i, mute, at) = (length (code u) + i, further_on m u us s i said mute, omega (arith, at))

  one_said : (j : ℕ) (u : Tree) (r : Result Measure Muteness) → SaidAt m j u r → RowSaid m j (more u none) (all_three r nothing_told nothing_told)
  one_said j u (Ok a) (s, said, same) =
      (s ∷ [], both_said u none s [] said refl, ap (λ x. x ∷ measure_of nothing_said ∷ measure_of nothing_said ∷ []) same)
  one_said j u (Err k) told = first_mute j u none k told

  two_said : (j : ℕ) (u v : Tree) (r q : Result Measure Muteness) → SaidAt m j u r → SaidAt m (j + length (code u)) v q → RowSaid m j (more u (more v none)) (all_three r q nothing_told)
  two_said j u v (Ok a) (Ok b) (s, said, same) (z, later, equal) =
      (s ∷ z ∷ [], both_said u (more v none) s (z ∷ []) said (both_said v none z [] later refl), λ i. same i ∷ equal i ∷ measure_of nothing_said ∷ [])
  two_said j u v (Ok a) (Err k) (s, said, same) told = later_mute j u (more v none) s k said (first_mute (j + length (code u)) v none k told)
  two_said j u v (Err k) q told later = first_mute j u (more v none) k told

  three_said : (j : ℕ) (u v w : Tree) (r q p : Result Measure Muteness) → SaidAt m j u r → SaidAt m (j + length (code u)) v q → SaidAt m (j + length (code u) + length (code v)) w p → RowSaid m j (more u (more v (more w none))) (all_three r q p)
  three_said j u v w (Ok a) (Ok b) (Ok c) (s, said, same) (z, later, equal) (y, last, like) =
      (s ∷ z ∷ y ∷ [], both_said u (more v (more w none)) s (z ∷ y ∷ []) said (both_said v (more w none) z (y ∷ []) later (both_said w none y [] last refl)), λ i. same i ∷ equal i ∷ like i ∷ [])
  three_said j u v w (Ok a) (Ok b) (Err k) (s, said, same) (z, later, equal) told =
      later_mute j u (more v (more w none)) s k said (later_mute (j + length (code u)) v (more w none) z k later (first_mute (j + length (code u) + length (code v)) w none k told))
  three_said j u v w (Ok a) (Err k) p (s, said, same) told last =
      later_mute j u (more v (more w none)) s k said (first_mute (j + length (code u)) v (more w none) k told)
  three_said j u v w (Err k) q p told later last = first_mute j u (more v (more w none)) k told

abbrev row : ℕ → List ℕ → Result (List Measure) Muteness → Row
row end places said = record { end = end; places = places; said = said }

module _ (m : Meaning) (s : Signature) (t : Tree) (j : ℕ) (table : MeasureTable) (measured : MeasuredFrom m t j table) where
  -- what is found at the place of a tree of the row
  found : (i : ℕ) (u : Tree) (n : NodeMeasure) → j ≤ i → At t i u → n ≡ measured_at table i → MeasureOf m i u n
  found i u n le at is = subst (MeasureOf m i u) (sym is) (measured i u le at)

  pub no_argument : (ts : Trees) (x : Result (List Measure) Muteness) → HaveCategories s [] ts → x ≡ all_three nothing_told nothing_told nothing_told → RowMeasured m j ts (row j (0 ∷ 0 ∷ 0 ∷ []) x)
  no_argument none x have is =
      record { end = omega arith; places = refl; said = subst (RowSaid m j none) (sym is) ([], refl, refl) }
  no_argument (more u us) x have is = let h = have.2 in let z : ◌≡◌ {A = ℕ} 0 1 = cc in absurd (omega arith)

  pub one_argument : (a : ℕ) (ts : Trees) (n : NodeMeasure) (x : Result (List Measure) Muteness) → HaveCategories s (a ∷ []) ts → RowAt t j ts → n ≡ measured_at table j → x ≡ all_three n.said nothing_told nothing_told → RowMeasured m j ts (row n.end (j ∷ 0 ∷ 0 ∷ []) x)
  one_argument a none n x have at is e = let h = have in let z : ◌≡◌ {A = ℕ} 0 1 = cc in absurd (omega arith)
  one_argument a (more u none) n x have at is e =
      let first = found j u n (omega arith) at.0 is in
      record {
        end = omega (arith, measure_end m j u n first, length-append (code u) []);
        places = refl;
        said = subst (RowSaid m j (more u none)) (sym e) (one_said m j u n.said (measure_said m j u n first));
      }
  one_argument a (more u (more v vs)) n x have at is e =
      let h = have.2 in let k = have.4.2 in let z : ◌≡◌ {A = ℕ} 0 1 = cc in absurd (omega arith)

  pub two_arguments : (a b : ℕ) (ts : Trees) (n k : NodeMeasure) (x : Result (List Measure) Muteness) → HaveCategories s (a ∷ b ∷ []) ts → RowAt t j ts → n ≡ measured_at table j → k ≡ measured_at table n.end → x ≡ all_three n.said k.said nothing_told → RowMeasured m j ts (row k.end (j ∷ n.end ∷ 0 ∷ []) x)
  two_arguments a b none n k x have at is then e = let h = have in let z : ◌≡◌ {A = ℕ} 0 1 = cc in absurd (omega arith)
  two_arguments a b (more u none) n k x have at is then e =
      let h = have.2 in let l = have.4 in let z : ◌≡◌ {A = ℕ} 0 1 = cc in absurd (omega arith)
  two_arguments a b (more u (more v none)) n k x have at is then e =
      let first = found j u n (omega arith) at.0 is in
      let end = measure_end m j u n first in
      let second = found (j + length (code u)) v k (omega arith) at.1.0 (then ∙ ap (measured_at table) end) in
      record {
        end = omega (arith, measure_end m (j + length (code u)) v k second, length-append (code u) (code v ++ []), length-append (code v) []);
        places = ap (λ p. j ∷ p ∷ 0 ∷ []) end;
        said = subst (RowSaid m j (more u (more v none))) (sym e) (two_said m j u v n.said k.said (measure_said m j u n first) (measure_said m (j + length (code u)) v k second));
      }
  two_arguments a b (more u (more v (more w ws))) n k x have at is then e =
      let h = have.2 in let l = have.4.2 in let q = have.4.4.2 in let z : ◌≡◌ {A = ℕ} 0 1 = cc in absurd (omega arith)

  pub three_arguments : (a b c : ℕ) (ts : Trees) (n k l : NodeMeasure) (x : Result (List Measure) Muteness) → HaveCategories s (a ∷ b ∷ c ∷ []) ts → RowAt t j ts → n ≡ measured_at table j → k ≡ measured_at table n.end → l ≡ measured_at table k.end → x ≡ all_three n.said k.said l.said → RowMeasured m j ts (row l.end (j ∷ n.end ∷ k.end ∷ []) x)
  three_arguments a b c none n k l x have at is then on e = let h = have in let z : ◌≡◌ {A = ℕ} 0 1 = cc in absurd (omega arith)
  three_arguments a b c (more u none) n k l x have at is then on e =
      let h = have.2 in let q = have.4 in let z : ◌≡◌ {A = ℕ} 0 1 = cc in absurd (omega arith)
  three_arguments a b c (more u (more v none)) n k l x have at is then on e =
      let h = have.2 in let q = have.4.2 in let r = have.4.4 in let z : ◌≡◌ {A = ℕ} 0 1 = cc in absurd (omega arith)
  three_arguments a b c (more u (more v (more w none))) n k l x have at is then on e =
      let first = found j u n (omega arith) at.0 is in
      let end = measure_end m j u n first in
      let second = found (j + length (code u)) v k (omega arith) at.1.0 (then ∙ ap (measured_at table) end) in
      let middle = measure_end m (j + length (code u)) v k second in
      let third = found (j + length (code u) + length (code v)) w l (omega arith) at.1.1.0 (on ∙ ap (measured_at table) middle) in
      record {
        end = omega (arith, measure_end m (j + length (code u) + length (code v)) w l third, length-append (code u) (code v ++ (code w ++ [])), length-append (code v) (code w ++ []), length-append (code w) []);
        places = λ i. j ∷ end i ∷ middle i ∷ [];
        said = subst (RowSaid m j (more u (more v (more w none)))) (sym e) (three_said m j u v w n.said k.said l.said (measure_said m j u n first) (measure_said m (j + length (code u)) v k second) (measure_said m (j + length (code u) + length (code v)) w l third));
      }
  three_arguments a b c (more u (more v (more w (more y ys)))) n k l x have at is then on e =
      let h = have.2 in let o = have.4.2 in let q = have.4.4.2 in let r = have.4.4.4.2 in let z : ◌≡◌ {A = ℕ} 0 1 = cc in absurd (omega arith)
