-- A language with hidden functions: its law, and its answers from those below.
use Rattle.std.specs.Prelude.{◌≡◌, ℕ, zero, suc, Bool, false, List, replicate, Some, None, slice_index_or, refl}
use Rattle.std.proofs.Common.{sym, ◌∙◌, ⊎_elim, arith}
use Rattle.std.proofs.lemmas.Bool.{cases_Bool, cond-true, cond-false}
use Rattle.grammar.specs.Languages.{Meaning, Rule, Lawful}
use Rattle.layers.specs.Hidden.{hidden}
use Rattle.layers.specs.Kept.{rule_kept}

pub none_marked : (n f : ℕ) → slice_index_or (replicate n false) f false ≡ false
none_marked zero f = refl
none_marked (suc n) zero = refl
none_marked (suc n) (suc f) = none_marked n f

-- a rule that is there is one below
rule_below : (hides : ℕ → Bool) (m : Meaning) (f : ℕ) (forms : List ℕ) (r : Rule) → (hidden hides m).rule f forms ≡ Some r → m.rule f forms ≡ Some r
rule_below hides m f forms r h =
    ⊎_elim
    (λ e. let none = cond-true (hides f) None (m.rule f forms) e in let z : ◌≡◌ {A = ℕ} 0 1 = cc in absurd (omega arith))
    (λ e. sym (cond-false (hides f) None (m.rule f forms) e) ∙ h)
    (cases_Bool (hides f))

pub hidden_lawful : (hides : ℕ → Bool) (m : Meaning) → Lawful m → Lawful (hidden hides m)
hidden_lawful hides m law = record {
  signature_lawful = law.signature_lawful;
  one_dimension_each = law.one_dimension_each;
  dimension_range = law.dimension_range;
  word_range = law.word_range;
  spelling_range = law.spelling_range;
  spelling_permitted = law.spelling_permitted;
  rules_lawful = λ f forms r h.
      let below = law.rules_lawful f forms r (rule_below hides m f forms r h) in
      (below.0, below.1, rule_kept m (hidden hides m) below.0 forms r refl refl below.2);
}
