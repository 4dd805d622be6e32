-- The notation of a lawful signature keeps the law of a language.
use Rattle.std.specs.Prelude.{◌≡◌, ℕ, zero, suc, ◌+◌, ◌<◌, ◌≤◌, true, List, [], ◌∷◌, length, replicate, Some, None, Option, ◌==◌, slice_index_or, refl}
use Rattle.std.proofs.Common.{ap, subst, ◌∙◌, arith}
use Rattle.std.specs.List.{slice_get, AllByRecursion}
use Rattle.std.proofs.ByRecursion.{All-get_or}
use Rattle.std.proofs.lemmas.List.{length-replicate}
use Rattle.std.proofs.lemmas.Option.{slice_get-get_or}
use Rattle.std.proofs.lemmas.Bool.{and_parts, eqb-true, false≢true}
use Rattle.grammar.specs.declared.symbol.Symbol.TheVariants.{Word, Reference}
use Rattle.grammar.specs.Languages.{Rule, SymbolLawful, RuleLawful, FunctionLawful, SignatureLawful, Lawful}
use Rattle.grammar.specs.Signatures.{Function, Signature}
use Rattle.grammar.proofs.Nth.{nth_below, nth_replicate}
use Rattle.notation.specs.Notations.{notation, rule_of, written, written_rule, zero_each}
use Rattle.notation.specs.Spelled.{words_length, words_sized, words_permitted}
use Rattle.notation.specs.Asked.{chosen}

one_each : (arguments forms : List ℕ) → zero_each arguments forms ≡ true → length forms ≡ length arguments
one_each [] [] h = refl
one_each [] (k ∷ ks) h = absurd (false≢true h)
one_each (c ∷ cs) [] h = absurd (false≢true h)
one_each (c ∷ cs) (k ∷ ks) h = ap suc (one_each cs ks (and_parts (k == 0) (zero_each cs ks) h).1)

small_each : (arguments forms : List ℕ) → zero_each arguments forms ≡ true → AllByRecursion (λ k. k ≤ 7) forms
small_each [] [] h = tt
small_each [] (k ∷ ks) h = absurd (false≢true h)
small_each (c ∷ cs) [] h = absurd (false≢true h)
small_each (c ∷ cs) (k ∷ ks) h =
    let parts = and_parts (k == 0) (zero_each cs ks) h in (omega (arith, eqb-true k 0 parts.0), small_each cs ks parts.1)

all_ones : (n : ℕ) → AllByRecursion (λ k. (1 ≤ k) × (k ≤ 4)) (replicate n 1)
all_ones zero = tt
all_ones (suc n) = ((omega arith, omega arith), all_ones n)

-- an element that a list has at a place is one of those that a property holds of
all_nth : {X : Type 0} (P : X → Type 0) (xs : List X) (i : ℕ) (x : X) → AllByRecursion P xs → slice_get xs i ≡ Some x → P x
all_nth P xs i x all e =
    let lt = nth_below xs i x e in
    let read = slice_get-get_or xs i x lt in
    let same : slice_index_or xs i x ≡ x = cc in
    subst P same (All-get_or P xs i x lt all)

module _ (s : Signature) (law : SignatureLawful s) (f : ℕ) (function : Function) (below : f < length s.functions) (fits : FunctionLawful s function) where
  word_lawful : (n : ℕ) → n < length s.functions + 3 → SymbolLawful (notation s) function (Word n)
  word_lawful n h = let long = words_length (length s.functions) in omega arith

  argument_lawful : (a c : ℕ) → slice_get function.arguments a ≡ Some c → SymbolLawful (notation s) function (Reference a 0)
  argument_lawful a c e = (c, 1, e, nth_replicate s.categories c 1 (all_nth (λ k. k < s.categories) function.arguments a c fits.argument_range e), omega arith)

  name : SymbolLawful (notation s) function (Word f)
  name = word_lawful f (omega arith)

  open_lawful : SymbolLawful (notation s) function (Word (length s.functions))
  open_lawful = word_lawful (length s.functions) (omega arith)

  close_lawful : SymbolLawful (notation s) function (Word (length s.functions + 1))
  close_lawful = word_lawful (length s.functions + 1) (omega arith)

  comma_lawful : SymbolLawful (notation s) function (Word (length s.functions + 2))
  comma_lawful = word_lawful (length s.functions + 2) (omega arith)

  argument : {arguments : List ℕ} (a c : ℕ) → function.arguments ≡ arguments → slice_get arguments a ≡ Some c → SymbolLawful (notation s) function (Reference a 0)
  argument a c e there = argument_lawful a c (ap (λ cs. slice_get cs a) e ∙ there)

  symbols : (arguments : List ℕ) → function.arguments ≡ arguments → length arguments ≤ 3 → (length (written (length s.functions) f arguments) ≤ 8) × AllByRecursion (SymbolLawful (notation s) function) (written (length s.functions) f arguments)
  symbols [] e few = (omega arith, (name, tt))
  symbols (a ∷ []) e few = (omega arith, (name, (open_lawful, (argument 0 a e refl, (close_lawful, tt)))))
  symbols (a ∷ b ∷ []) e few =
      (omega arith, (name, (open_lawful, (argument 0 a e refl, (comma_lawful, (argument 1 b e refl, (close_lawful, tt)))))))
  symbols (a ∷ b ∷ c ∷ []) e few =
      (omega arith, (name, (open_lawful, (argument 0 a e refl, (comma_lawful, (argument 1 b e refl, (comma_lawful, (argument 2 c e refl, (close_lawful, tt)))))))))
  symbols (a ∷ b ∷ c ∷ d ∷ more) e few = absurd (omega arith)

  rule_lawful : (forms : List ℕ) → zero_each function.arguments forms ≡ true → RuleLawful (notation s) function forms (written_rule (length s.functions) f function.arguments)
  rule_lawful forms h =
      let told = symbols function.arguments refl fits.arity_range in
      record {
        one_form_each = one_each function.arguments forms h;
        forms_range = small_each function.arguments forms h;
        form_range = omega arith;
        one_sequence_each = nth_replicate s.categories function.result 1 fits.result_range;
        sequence_range = (told.0, tt);
        symbols_lawful = (told.1, tt);
      }

pub notation_lawful : (s : Signature) → SignatureLawful s → Lawful (notation s)
notation_lawful s law =
    let count = length s.functions in
    record {
      signature_lawful = law;
      one_dimension_each = length-replicate s.categories 1;
      dimension_range = all_ones s.categories;
      word_range = let long = words_length count in omega (arith, law.function_range);
      spelling_range = words_sized count law.function_range;
      spelling_permitted = words_permitted count law.function_range;
      rules_lawful = λ f forms r h. by f forms r (slice_get s.functions f) refl h;
    }
  where
    by : (f : ℕ) (forms : List ℕ) (r : Rule) (o : Option Function) → slice_get s.functions f ≡ o → rule_of (length s.functions) f forms o ≡ Some r → (function : Function) × (slice_get s.functions f ≡ Some function) × RuleLawful (notation s) function forms r
    by f forms r None e h = let z : ◌≡◌ {A = ℕ} 0 1 = cc in absurd (omega arith)
    by f forms r (Some function) e h =
        let made = chosen (zero_each function.arguments forms) (Some (written_rule (length s.functions) f function.arguments)) r h in
        let same : written_rule (length s.functions) f function.arguments ≡ r = cc in
        let fits = all_nth (FunctionLawful s) s.functions f function law.functions_lawful e in
        (function, e, subst (RuleLawful (notation s) function forms) same (rule_lawful s law f function (nth_below s.functions f function e) fits forms made.0))
