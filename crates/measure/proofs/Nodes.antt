-- A node's measure, from the row of its arguments.
use Rattle.std.proofs.Common.{◌≡◌, ℕ, zero, suc, ◌+◌, ◌^◌, ◌≤◌, List, [], ◌∷◌, map, length, get_or, Some, None, Ok, Err, Option, Result, sym, refl, ap, ◌∙◌, subst, arith}
use Rattle.std.specs.List.{AllByRecursion}
use Rattle.std.specs.Option.{ok_or, option_map}
use Rattle.grammar.specs.declared.signature.Arguments.{Arguments}
use Rattle.grammar.specs.Languages.{Lawful, Meaning, Rule}
use Rattle.grammar.specs.Linearization.{Said, apply_rule, by_rule, linearized_all, nothing_said, said_form, said_node}
use Rattle.grammar.specs.Questions.{argument_list, arguments_answer, asked, function_arguments}
use Rattle.grammar.specs.Signatures.{Signature}
use Rattle.grammar.specs.Trees.{Tree, Trees, code, deepest, HaveCategories}
use Rattle.grammar.specs.Trees.Tree.{node}
use Rattle.saying.specs.Mute.{FirstMuteIn, RowAt}
use Rattle.saying.proofs.Lengths.{AllBounded, Bounded, power_mono, read_all, trees_bounded}
use Rattle.saying.proofs.Muteness.{at_root, below, row_not_said}
use Rattle.saying.proofs.Places.{arguments_at}
use Rattle.measure.specs.declared.kinds.Measure.{Measure}
use Rattle.measure.specs.declared.kinds.Muteness.{Muteness}
use Rattle.measure.specs.declared.kinds.NodeMeasure.{NodeMeasure}
use Rattle.measure.specs.declared.kinds.Row.{Row}
use Rattle.measure.specs.declared.table.MeasureTable.{MeasureTable}
use Rattle.measure.specs.Measured.{MeasuredFrom, NodeAt, NodeMeasured, RowMeasured, RowSaid}
use Rattle.measure.specs.Sizes.{constituent_size, forms_said, measure_of, padded, row_places, SaidAt}
use Rattle.measure.specs.Sums.{argument_measures, ArgumentSize, ArgumentSizes, measure_forms}
use Rattle.measure.proofs.Asked.{node_asked}

-- an argument of a tree at most 6 deep has a measure within its bounds
argument_bounded : (ts : Trees) (all : List Said) → deepest ts ≤ 5 → AllByRecursion (AllBounded (8 ^ deepest ts)) all → ArgumentSizes (argument_measures all)
argument_bounded ts all deep bounded = (sizes 0, (sizes 1, (sizes 2, tt)))
  where
    small : (k n : ℕ) → ArgumentSize (constituent_size (get_or all k nothing_said) n)
    small k n =
        let words = read_all (Bounded (8 ^ deepest ts)) (get_or all k nothing_said).constituents n [] (read_all (AllBounded (8 ^ deepest ts)) all k nothing_said bounded tt) (omega arith, omega arith) in
        let most : 8 ^ deepest ts ≤ 32768 = power_mono (deepest ts) 5 deep in
        (omega (arith, words.0, most), omega (arith, words.0, words.1, most))

    sizes : (k : ℕ) → AllByRecursion ArgumentSize (measure_of (get_or all k nothing_said)).sizes
    sizes k = (small k 0, (small k 1, (small k 2, (small k 3, tt))))

-- the three forms are those of the arguments
form_at : (all : List Said) (k : ℕ) → (get_or all k nothing_said).form ≡ get_or (map said_form all) k 0
form_at [] k = refl
form_at (s ∷ all) zero = refl
form_at (s ∷ all) (suc k) = form_at all k

forms_padded : (all : List Said) (measures : List Measure) → measures ≡ argument_measures all → measure_forms measures ≡ padded (map said_form all)
forms_padded all measures same = ap measure_forms same ∙ (λ i. form_at all 0 i ∷ form_at all 1 i ∷ form_at all 2 i ∷ [])

abbrev of_parts : ℕ → List ℕ → List ℕ → Result Measure Muteness → NodeMeasure
of_parts end places forms said = record { end = end; places = places; forms = forms; said = said }

module _ (m : Meaning) (law : Lawful m) (t : Tree) (place f : ℕ) (ts : Trees) (table : MeasureTable) (at : NodeAt m t place f ts table) where
  -- the arguments that the language tells are those of the node, and stand right after it: the row found there is theirs
  module _ (arguments : Arguments) (told : Some (argument_list arguments) ≡ arguments_answer m f) (row : Row) (found : (l : Meaning) (s : Signature) (u : Tree) (us : Trees) → HaveCategories s (argument_list arguments) us → RowAt u (place + 1) us → MeasuredFrom l u (place + 1) table → RowMeasured l (place + 1) us row) where
    row_is : RowMeasured m (place + 1) ts row
    row_is =
        let of = at.of in
        let named : Some (argument_list arguments) ≡ Some of.0.arguments = told ∙ ap (option_map function_arguments) of.1 in
        let same : argument_list arguments ≡ of.0.arguments = cc in
        let on : suc place ≡ place + 1 = omega arith in
        found m m.signature t ts
        (subst (λ cs. HaveCategories m.signature cs ts) (sym same) of.3)
        (subst (λ k. RowAt t k ts) on (arguments_at t place f ts at.there))
        (λ i u le here. at.measured i u (omega arith) here)

    places_row : row.places ≡ padded (row_places (suc place) ts)
    places_row = let on : place + 1 ≡ suc place = omega arith in let is = row_is in is.places ∙ ap (λ k. padded (row_places k ts)) on

    end_row : row.end ≡ place + length (code (node f ts))
    end_row = let is = row_is in omega (arith, is.end)

    -- where an argument has a mute node, the first of these is the node's
    pub silent_node : (k : Muteness) → row.said ≡ Err k → NodeMeasured m place f ts (of_parts row.end row.places (0 ∷ 0 ∷ 0 ∷ []) (Err k))
    silent_node k gone =
        let is = row_is in
        let mute : RowSaid m (place + 1) ts (Err k) = subst (RowSaid m (place + 1) ts) gone is.said in
        record {
          end = end_row;
          places = places_row;
          forms = unsaid mute.0 mute.1 (linearized_all m ts) refl;
          said = (suc mute.0, below m f ts mute.0 mute.1, omega (arith, mute.2));
        }
      where
        unsaid : (i : ℕ) → FirstMuteIn m ts i → (o : Option (List Said)) → linearized_all m ts ≡ o → 0 ∷ 0 ∷ 0 ∷ [] ≡ padded (forms_said o)
        unsaid i mute None e = refl
        unsaid i mute (Some all) e = absurd (row_not_said m ts i mute all e)

    -- else the arguments have these measures, which are small
    module _ (ms : List Measure) (there : row.said ≡ Ok ms) where
      row_said : RowSaid m (place + 1) ts (Ok ms)
      row_said = let is = row_is in subst (RowSaid m (place + 1) ts) there is.said

      pub small_arguments : ArgumentSizes ms
      small_arguments =
          let said = row_said in
          let deep = at.deep in
          subst ArgumentSizes (sym said.2) (argument_bounded ts said.0 (omega arith) (trees_bounded ts m law said.0 said.1))

      key : asked m f (measure_forms ms) ≡ Some (map said_form row_said.0)
      key =
          let said = row_said in
          let of = at.of in
          ap (asked m f) (forms_padded said.0 ms said.2) ∙ node_asked m law f ts of.0 said.0 of.1 of.3 said.1

      -- and the node has what its rule makes of them, or is mute where there is none
      pub ruled_node : (forms : List ℕ) (made : Option Measure) (said : Result Measure Muteness) → forms ≡ measure_forms ms → ((all : List Said) → ms ≡ argument_measures all → asked m f forms ≡ Some (map said_form all) → made ≡ option_map measure_of (apply_rule m all (m.rule f (map said_form all)))) → said ≡ ok_or made record { node = place } → NodeMeasured m place f ts (of_parts row.end row.places forms said)
      ruled_node forms made said same rule is = record {
        end = end_row;
        places = places_row;
        forms = same ∙ forms_padded row_said.0 ms row_said.2 ∙ ap (λ q. padded (forms_said q)) (sym row_said.1);
        said = subst (SaidAt m place (node f ts)) (sym (is ∙ ap (λ q. ok_or q record { node = place }) (rule row_said.0 row_said.2 (ap (asked m f) same ∙ key)))) (by (m.rule f (map said_form row_said.0)) refl);
      }
        where
          by : (r : Option Rule) → m.rule f (map said_form row_said.0) ≡ r → SaidAt m place (node f ts) (ok_or (option_map measure_of (apply_rule m row_said.0 r)) record { node = place })
          by None k = (0, at_root m f ts row_said.0 row_said.1 k, omega arith)
          by (Some r) k = (by_rule m row_said.0 r, ap (said_node m f) row_said.1 ∙ ap (apply_rule m row_said.0) k, refl)
