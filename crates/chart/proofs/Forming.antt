-- The edges of a function, form by form.
use Rattle.std.proofs.Common.{◌≡◌, ℕ, List, [], ◌∷◌, ◌++◌, map, Some, None, Option, sym, refl, ap, ◌∙◌, inl, inr, arith}
use Rattle.std.specs.List.{flat_map}
use Rattle.std.specs.Option.{option_map}
use Rattle.grammar.specs.declared.symbol.RuleForm.{RuleForm}
use Rattle.grammar.specs.declared.symbol.RuleForm.TheVariants.{Form, Missing}
use Rattle.grammar.specs.Languages.{Meaning, Rule}
use Rattle.grammar.specs.Lists.{Holds}
use Rattle.grammar.specs.Questions.{asked, form_or_lack, rule_answer, rule_at}
use Rattle.chart.specs.Forms.{ruled_edges}
use Rattle.chart.specs.Rows.{product}

-- what the answer on a rule tells of the edges
answer_is : (m : Meaning) (f : ℕ) (forms ks : List ℕ) (o : Option RuleForm) → asked m f forms ≡ Some ks → o ≡ rule_answer m f forms → o ≡ Some (form_or_lack (m.rule f ks))
answer_is m f forms ks o key told = told ∙ ap (λ k. option_map form_or_lack (rule_at m f k)) key

pub no_answer : (m : Meaning) (f : ℕ) (forms ks : List ℕ) → asked m f forms ≡ Some ks → None ≡ rule_answer m f forms → ⊥
no_answer m f forms ks key told = let h = answer_is m f forms ks None key told in let z : ◌≡◌ {A = ℕ} 0 1 = cc in omega arith

pub missing_edges : (m : Meaning) (f : ℕ) (forms ks : List ℕ) (chains : List (List ℕ)) → asked m f forms ≡ Some ks → Some Missing ≡ rule_answer m f forms → ruled_edges f chains (m.rule f ks) ≡ []
missing_edges m f forms ks chains key told = by (m.rule f ks) (answer_is m f forms ks (Some Missing) key told)
  where
    by : (o : Option Rule) → Some Missing ≡ Some (form_or_lack o) → ruled_edges f chains o ≡ []
    by None h = refl
    by (Some r) h = let z : ◌≡◌ {A = ℕ} 0 1 = cc in absurd (omega arith)

pub formed_edges : (m : Meaning) (f : ℕ) (forms ks : List ℕ) (chains : List (List ℕ)) (k : ℕ) → asked m f forms ≡ Some ks → Some (Form k) ≡ rule_answer m f forms → (r : Rule) × (m.rule f ks ≡ Some r)
formed_edges m f forms ks chains k key told = by (m.rule f ks) refl (answer_is m f forms ks (Some (Form k)) key told)
  where
    by : (o : Option Rule) → m.rule f ks ≡ o → Some (Form k) ≡ Some (form_or_lack o) → (r : Rule) × (m.rule f ks ≡ Some r)
    by None e h = let z : ◌≡◌ {A = ℕ} 0 1 = cc in absurd (omega arith)
    by (Some r) e h = (r, e)

-- no choice from an empty chain
pub empty_product : (chains : List (List ℕ)) → Holds chains [] → product chains ≡ []
empty_product [] h = absurd h
empty_product (qs ∷ chains) (inl e) = ap (flat_map (λ q. map (λ row. q ∷ row) (product chains))) (sym e)
empty_product (qs ∷ chains) (inr h) = none (empty_product chains h) qs
  where
    none : product chains ≡ [] → (ps : List ℕ) → flat_map (λ q. map (λ row. q ∷ row) (product chains)) ps ≡ []
    none rest [] = refl
    none rest (p ∷ ps) = ap (λ rows. map (λ row. p ∷ row) rows ++ flat_map (λ q. map (λ row. q ∷ row) (product chains)) ps) rest ∙ none rest ps
