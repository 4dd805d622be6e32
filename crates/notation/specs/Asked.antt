-- What a notation answers of its rules: the forms that a question names, and the rule that it comes to.
use lib.Pointwise.{pointwise}
use Rattle.std.specs.Prelude.{◌≡◌, ℕ, zero, suc, ◌≤◌, Bool, true, false, cond, ◌&&◌, List, [], ◌∷◌, length, is_some, Some, None, Option, ◌==◌, nat_eq, nat_le, replicate, slice_index, refl}
use Rattle.std.proofs.Common.{sym, ap, ◌∙◌, ⊎_elim, arith}
use Rattle.std.specs.List.{slice_get}
use Rattle.std.specs.Option.{option_map}
use Rattle.std.proofs.lemmas.Bool.{and_left, and_parts, cases_Bool, cond-true, cond-false, eqb-true, le-leb, ne_eqb}
use Rattle.grammar.specs.declared.signature.Arguments.{Arguments}
use Rattle.grammar.specs.declared.signature.Arguments.TheVariants.{Zero, One, Two, Three}
use Rattle.grammar.specs.declared.signature.FunctionType.{FunctionType}
use Rattle.grammar.specs.declared.signature.SignatureTable.{SignatureTable}
use Rattle.grammar.specs.declared.symbol.RuleForm.TheVariants.{Form, Missing}
use Rattle.grammar.specs.Questions.{argument_list, function_arguments, with_first, forms_of, key_of, asked, rule_at, form_or_lack, rule_answer, sequence_at, sequence_answer}
use Rattle.grammar.specs.Signatures.{Function, Signature}
use Rattle.grammar.specs.Tables.{typed, listed, signature_of}
use Rattle.grammar.proofs.Nth.{nth_map}
use Rattle.notation.specs.Notations.{notation, rule_of, written, written_rule, zero_each, all_zero}

impossible : {P : Type 0} → ◌≡◌ {A = ℕ} 0 1 → P
impossible z = absurd (omega arith)

-- a choice that is there was made
pub chosen : {X : Type 0} (b : Bool) (o : Option X) (x : X) → cond b o None ≡ Some x → (b ≡ true) × (o ≡ Some x)
chosen true o x h = (refl, h)
chosen false o x h = impossible (cc)

first_of : (k : ℕ) (o : Option (List ℕ)) (key : List ℕ) → with_first k o ≡ Some key → (rest : List ℕ) × (o ≡ Some rest) × (key ≡ k ∷ rest)
first_of k None key h = impossible (cc)
first_of k (Some rest) key h = (rest, refl, cc)

tested : {X : Type 0} (b : Bool) (o : Option X) → (b && is_some o) ≡ is_some (cond b o None)
tested true o = refl
tested false o = refl

with_more : (k : ℕ) (o : Option (List ℕ)) → is_some o ≡ is_some (with_first k o)
with_more k None = refl
with_more k (Some ks) = refl

-- the forms of the arguments are all 0 where those of the question are
pub zero_key : (arguments forms key : List ℕ) → forms_of (length arguments) forms ≡ Some key → zero_each arguments key ≡ all_zero forms
zero_key [] [] key h = let none : key ≡ [] = cc in rw none
zero_key [] (k ∷ ks) key h =
    let made = chosen (k == 0) (forms_of 0 ks) key h in
    zero_key [] ks key made.1 ∙ ap (λ b. b && all_zero ks) (sym made.0)
zero_key (c ∷ cs) [] key h = impossible (cc)
zero_key (c ∷ cs) (k ∷ ks) key h =
    let made = chosen (nat_le k 7) (with_first k (forms_of (length cs) ks)) key h in
    let more = first_of k (forms_of (length cs) ks) key made.1 in
    ap (zero_each (c ∷ cs)) more.2 ∙ ap (λ b. (k == 0) && b) (zero_key cs ks more.0 more.1)

-- forms that are all 0 are in range
pub zero_in_range : (n : ℕ) (forms : List ℕ) → n ≤ length forms → all_zero forms ≡ true → is_some (forms_of n forms) ≡ true
zero_in_range zero [] few h = refl
zero_in_range zero (k ∷ ks) few h =
    let parts = and_parts (k == 0) (all_zero ks) h in
    ap is_some (cond-true (k == 0) (forms_of 0 ks) None parts.0) ∙ zero_in_range zero ks (omega arith) parts.1
zero_in_range (suc n) [] few h = absurd (omega arith)
zero_in_range (suc n) (k ∷ ks) few h =
    let parts = and_parts (k == 0) (all_zero ks) h in
    let small = le-leb k 7 (omega (arith, eqb-true k 0 parts.0)) in
    ap is_some (cond-true (nat_le k 7) (with_first k (forms_of n ks)) None small)
    ∙ sym (with_more k (forms_of n ks))
    ∙ zero_in_range n ks (omega arith) parts.1

-- the forms of a question are in range, form by form
abbrev within : ℕ → List ℕ → Bool
within zero [] = true
within zero (k ∷ ks) = k == 0 && within zero ks
within (suc n) [] = false
within (suc n) (k ∷ ks) = nat_le k 7 && within n ks

is_within : (n : ℕ) (forms : List ℕ) → within n forms ≡ is_some (forms_of n forms)
is_within zero [] = refl
is_within zero (k ∷ ks) = ap (λ b. (k == 0) && b) (is_within zero ks) ∙ tested (k == 0) (forms_of zero ks)
is_within (suc n) [] = refl
is_within (suc n) (k ∷ ks) =
    ap (λ b. nat_le k 7 && b) (is_within n ks ∙ with_more k (forms_of n ks)) ∙ tested (nat_le k 7) (with_first k (forms_of n ks))

-- the forms of a question are three
three : (forms : List ℕ) → length forms ≡ 3 → slice_index forms 0 ∷ slice_index forms 1 ∷ slice_index forms 2 ∷ [] ≡ forms
three [] h = absurd (omega arith)
three (a ∷ []) h = absurd (omega arith)
three (a ∷ b ∷ []) h = absurd (omega arith)
three (a ∷ b ∷ c ∷ []) h = refl
three (a ∷ b ∷ c ∷ d ∷ more) h = absurd (omega arith)

pub three_tests : (x y z : Bool) → ((x && y) && z) ≡ (x && (y && (z && true)))
three_tests true true true = refl
three_tests true true false = refl
three_tests true false z = refl
three_tests false y z = refl

pub three_within : (n : ℕ) (forms : List ℕ) → length forms ≡ 3 → within n (slice_index forms 0 ∷ slice_index forms 1 ∷ slice_index forms 2 ∷ []) ≡ is_some (forms_of n forms)
three_within n forms long = ap (within n) (three forms long) ∙ is_within n forms

pub three_zero : (forms : List ℕ) → length forms ≡ 3 → all_zero (slice_index forms 0 ∷ slice_index forms 1 ∷ slice_index forms 2 ∷ []) ≡ all_zero forms
three_zero forms long = ap all_zero (three forms long)

-- a list is all 0 where it equals as many 0s
pub all_are_zero : (forms : List ℕ) (n : ℕ) → length forms ≡ n → pointwise nat_eq forms (replicate n 0) ≡ all_zero forms
all_are_zero [] zero long = refl
all_are_zero [] (suc n) long = absurd (omega (arith, long))
all_are_zero (k ∷ ks) zero long = absurd (omega (arith, long))
all_are_zero (k ∷ ks) (suc n) long = ap (λ b. (k == 0) && b) (all_are_zero ks n (omega (arith, long)))

-- a rule has one sequence
one_sequence : (b : Bool) (count f : ℕ) (arguments : List ℕ) (k : ℕ) → sequence_at (Some (cond b (Some (written_rule count f arguments)) None)) k ≡ cond (b && k == 0) (Some (written count f arguments)) None
one_sequence true count f arguments zero = refl
one_sequence true count f arguments (suc k) = sym (cond-false (suc k == 0) (Some (written count f arguments)) None (ne_eqb (suc k) 0 (λ e. omega arith)))
one_sequence false count f arguments k = refl

module _ (s : Signature) (f : ℕ) (forms : List ℕ) where
  -- no function, no answer
  pub none_asked : slice_get s.functions f ≡ None → rule_at (notation s) f (asked (notation s) f forms) ≡ None
  none_asked e = ap (λ o. rule_at (notation s) f (key_of (option_map function_arguments o) forms)) e

  module _ (function : Function) (there : slice_get s.functions f ≡ Some function) where
    key_asked : asked (notation s) f forms ≡ forms_of (length function.arguments) forms
    key_asked = ap (λ o. key_of (option_map function_arguments o) forms) there

    -- nor is there one out of range
    pub outside_asked : is_some (forms_of (length function.arguments) forms) ≡ false → rule_at (notation s) f (asked (notation s) f forms) ≡ None
    outside_asked h = ap (rule_at (notation s) f) key_asked ∙ by (forms_of (length function.arguments) forms) h
      where
        by : (o : Option (List ℕ)) → is_some o ≡ false → rule_at (notation s) f o ≡ None
        by None e = refl
        by (Some key) e = impossible (cc)

    -- in range there is the rule, at forms that are all 0
    pub inside_asked : is_some (forms_of (length function.arguments) forms) ≡ true → rule_at (notation s) f (asked (notation s) f forms) ≡ Some (cond (all_zero forms) (Some (written_rule (length s.functions) f function.arguments)) None)
    inside_asked h = ap (rule_at (notation s) f) key_asked ∙ by (forms_of (length function.arguments) forms) refl h
      where
        by : (o : Option (List ℕ)) → forms_of (length function.arguments) forms ≡ o → is_some o ≡ true → rule_at (notation s) f o ≡ Some (cond (all_zero forms) (Some (written_rule (length s.functions) f function.arguments)) None)
        by None e some = impossible (cc)
        by (Some key) e some =
            ap (λ o. Some (rule_of (length s.functions) f key o)) there
            ∙ ap (λ b. Some (cond b (Some (written_rule (length s.functions) f function.arguments)) None)) (zero_key function.arguments forms key e)

    -- its sequence is the function written out, for constituent 0 alone
    pub sequence_asked : (k : ℕ) → length function.arguments ≤ length forms → sequence_answer (notation s) f forms k ≡ cond (all_zero forms && k == 0) (Some (written (length s.functions) f function.arguments)) None
    sequence_asked k few =
        ⊎_elim
        (λ inside. ap (λ o. sequence_at o k) (inside_asked inside) ∙ one_sequence (all_zero forms) (length s.functions) f function.arguments k)
        (λ outside. ap (λ o. sequence_at o k) (outside_asked outside) ∙ sym (cond-false _ _ None (and_left _ _ (some_form outside))))
        (cases_Bool (is_some (forms_of (length function.arguments) forms)))
      where
        some_form : is_some (forms_of (length function.arguments) forms) ≡ false → all_zero forms ≡ false
        some_form outside =
            ⊎_elim
            (λ zeros. let inside = zero_in_range (length function.arguments) forms few zeros in impossible (cc))
            (λ some. some)
            (cases_Bool (all_zero forms))

pub at_most_three : (arguments : Arguments) → length (argument_list arguments) ≤ 3
at_most_three Zero = omega arith
at_most_three (One a) = omega arith
at_most_three (Two a b) = omega arith
at_most_three (Three a b c) = omega arith

-- the function that a table has under a number is the signature's
pub in_table : (t : SignatureTable) (f : ℕ) (o : Option FunctionType) → o ≡ slice_get (listed t) f → slice_get (signature_of t).functions f ≡ option_map typed o
in_table t f o told = nth_map typed (listed t) f ∙ ap (option_map typed) (sym told)

module _ (t : SignatureTable) (f : ℕ) (forms : List ℕ) where
  pub rule_none : None ≡ slice_get (listed t) f → rule_answer (notation (signature_of t)) f forms ≡ None
  rule_none told = ap (option_map form_or_lack) (none_asked (signature_of t) f forms (in_table t f None told))

  pub sequence_none : (k : ℕ) → None ≡ slice_get (listed t) f → sequence_answer (notation (signature_of t)) f forms k ≡ None
  sequence_none k told = ap (λ o. sequence_at o k) (none_asked (signature_of t) f forms (in_table t f None told))

  module _ (function : FunctionType) (told : Some function ≡ slice_get (listed t) f) where
    pub rule_outside : false ≡ is_some (forms_of (length (argument_list function.arguments)) forms) → rule_answer (notation (signature_of t)) f forms ≡ None
    rule_outside outside =
        ap (option_map form_or_lack) (outside_asked (signature_of t) f forms (typed function) (in_table t f (Some function) told) (sym outside))

    pub rule_inside : (b : Bool) → b ≡ all_zero forms → true ≡ is_some (forms_of (length (argument_list function.arguments)) forms) → rule_answer (notation (signature_of t)) f forms ≡ Some (cond b (Form 0) Missing)
    rule_inside b zeros inside =
        ap (option_map form_or_lack) (inside_asked (signature_of t) f forms (typed function) (in_table t f (Some function) told) (sym inside))
        ∙ by (all_zero forms)
        ∙ ap (λ z. Some (cond z (Form 0) Missing)) (sym zeros)
      where
        by : (z : Bool) → Some (form_or_lack (cond z (Some (written_rule (length (signature_of t).functions) f (argument_list function.arguments))) None)) ≡ Some (cond z (Form 0) Missing)
        by true = refl
        by false = refl

    -- forms that are all 0 are in range, and have the rule
    pub rule_at_zeros : length forms ≡ 3 → true ≡ all_zero forms → rule_answer (notation (signature_of t)) f forms ≡ Some (Form 0)
    rule_at_zeros long zeros =
        rule_inside true zeros
        (sym (zero_in_range (length (argument_list function.arguments)) forms (omega (arith, long, at_most_three function.arguments)) (sym zeros)))

    pub sequence_told : (k : ℕ) (b z : Bool) → z ≡ all_zero forms → (z && k == 0) ≡ b → length forms ≡ 3 → sequence_answer (notation (signature_of t)) f forms k ≡ cond b (Some (written (length (signature_of t).functions) f (argument_list function.arguments))) None
    sequence_told k b z zeros test long =
        let few = at_most_three function.arguments in
        sequence_asked (signature_of t) f forms (typed function) (in_table t f (Some function) told) k (omega arith)
        ∙ ap (λ x. cond (x && k == 0) (Some (written (length (signature_of t).functions) f (argument_list function.arguments))) None) (sym zeros)
        ∙ ap (λ x. cond x (Some (written (length (signature_of t).functions) f (argument_list function.arguments))) None) test
