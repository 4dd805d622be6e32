-- Finding a rule by its key: the table's rule for a function and forms is that of the one entry with that key.
use Rattle.std.proofs.Common.{◌≡◌, ℕ, zero, suc, ◌+◌, ◌<◌, ◌≤◌, Bool, true, false, cond, ◌&&◌, eqb, ltb, leb, List, [], ◌∷◌, map, Some, None, Option, sym, refl, ap, ◌∙◌, subst, ⊎_elim, arith}
use Rattle.std.specs.List.{range_with_len}
use Rattle.std.specs.Str.{bytes_eq}
use Rattle.std.proofs.lemmas.Slice.Eq.{bytes_eq-Decides}
use Rattle.std.proofs.lemmas.Bool.{eqb-true, eq-eqb, and_parts, and_from, cases_order, both_ways, le-ltb, cond-false}
use Rattle.demands.specs.Check.{rises}
use Rattle.view.specs.Grammar.{key, listing, rule_entry, image_meaning}
use Rattle.view.specs.Layout.{byte, rules, rule_at, rule_function, argument_form, rule_arity, arity}
use Rattle.grammar.proofs.Optional.{none_some}
use Rattle.grammar.specs.Questions.{forms_of, with_first}
use Rattle.grammar.specs.RuleTables.{Entry, from_table}
use Rattle.soundness.proofs.KeyOrder.{rising, rises_not_itself}
use Rattle.soundness.proofs.Sound.{Sound}

-- whether an entry is the one for the function and the forms
abbrev matching : ℕ → List ℕ → Entry → Bool
matching f forms e = eqb f e.function && bytes_eq forms e.forms

-- a table that is made by counting has the rule of the entry that matches, where no other does
found_from : (g : ℕ → Entry) (f : ℕ) (forms : List ℕ) (n a i : ℕ) → i < n → matching f forms (g (a + i)) ≡ true → ((j : ℕ) → j < n → matching f forms (g (a + j)) ≡ true → j ≡ i) → from_table (map g (range_with_len a n)) f forms ≡ Some (g (a + i)).rule
found_from g f forms zero a i lt m one = absurd (omega arith)
found_from g f forms (suc n) a i lt m one = by (matching f forms (g a)) refl (λ k other only. found_from g f forms n (a + 1) k other only)
  where
    here : a ≡ a + 0
    here = omega arith

    by : (t : Bool) → matching f forms (g a) ≡ t → ((k : ℕ) → k < n → matching f forms (g (a + 1 + k)) ≡ true → ((j : ℕ) → j < n → matching f forms (g (a + 1 + j)) ≡ true → j ≡ k) → from_table (map g (range_with_len (a + 1) n)) f forms ≡ Some (g (a + 1 + k)).rule) → cond t (Some (g a).rule) (from_table (map g (range_with_len (a + 1) n)) f forms) ≡ Some (g (a + i)).rule
    by true t rest = ap (λ j. Some (g j).rule) (here ∙ ap (λ j. a + j) (one 0 (omega arith) (subst (λ j. matching f forms (g j) ≡ true) here t)))
    by false t rest = later i lt m one
      where
        later : (k : ℕ) → k < suc n → matching f forms (g (a + k)) ≡ true → ((j : ℕ) → j < suc n → matching f forms (g (a + j)) ≡ true → j ≡ k) → from_table (map g (range_with_len (a + 1) n)) f forms ≡ Some (g (a + k)).rule
        later zero kl km only = absurd (both_ways _ t (subst (λ j. matching f forms (g j) ≡ true) (sym here) km))
        later (suc k) kl km only =
            let at : a + suc k ≡ a + 1 + k = omega arith in
            subst (λ j. from_table (map g (range_with_len (a + 1) n)) f forms ≡ Some (g j).rule) (sym at)
            (rest k (omega arith) (subst (λ j. matching f forms (g j) ≡ true) at km) (λ j jl jm. let back : a + 1 + j ≡ a + suc j = omega arith in let same = only (suc j) (omega arith) (subst (λ x. matching f forms (g x) ≡ true) back jm) in omega (arith, same)))

-- and no rule where none does
none_from : (g : ℕ → Entry) (f : ℕ) (forms : List ℕ) (n a : ℕ) → ((j : ℕ) → j < n → matching f forms (g (a + j)) ≡ true → ⊥) → from_table (map g (range_with_len a n)) f forms ≡ None
none_from g f forms zero a no_match = refl
none_from g f forms (suc n) a no_match = by (matching f forms (g a)) refl (none_from g f forms n (a + 1) (λ j jl jm. let at : a + 1 + j ≡ a + suc j = omega arith in no_match (suc j) (omega arith) (subst (λ x. matching f forms (g x) ≡ true) at jm)))
  where
    by : (t : Bool) → matching f forms (g a) ≡ t → from_table (map g (range_with_len (a + 1) n)) f forms ≡ None → cond t (Some (g a).rule) (from_table (map g (range_with_len (a + 1) n)) f forms) ≡ None
    by true t rest = let at : a ≡ a + 0 = omega arith in absurd (no_match 0 (omega arith) (subst (λ x. matching f forms (g x) ≡ true) at t))
    by false t rest = rest

-- the forms that a question names: those of the n arguments, and 0 in the other places
abbrev Padded : ℕ → List ℕ → List ℕ → Type 0
Padded zero [] [] = Unit {0}
Padded zero [] (y ∷ ys) = ⊥
Padded zero (k ∷ ks) ys = (k ≡ 0) × Padded zero ks ys
Padded (suc n) [] ys = ⊥
Padded (suc n) (k ∷ ks) [] = ⊥
Padded (suc n) (k ∷ ks) (y ∷ ys) = (k ≡ y) × Padded n ks ys

forms_padded : (ks : List ℕ) (n : ℕ) (ys : List ℕ) → forms_of n ks ≡ Some ys → Padded n ks ys
forms_padded [] zero [] e = tt
forms_padded [] zero (y ∷ ys) e = let z : ◌≡◌ {A = ℕ} 0 1 = cc in absurd (omega arith)
forms_padded [] (suc n) ys e = absurd (none_some ys e)
forms_padded (k ∷ ks) zero ys e = by (eqb k 0) refl e (λ h. forms_padded ks zero ys h)
  where
    by : (t : Bool) → eqb k 0 ≡ t → cond t (forms_of zero ks) None ≡ Some ys → (forms_of zero ks ≡ Some ys → Padded zero ks ys) → (k ≡ 0) × Padded zero ks ys
    by true t h rest = (eqb-true k 0 t, rest h)
    by false t h rest = absurd (none_some ys h)
forms_padded (k ∷ ks) (suc n) ys e = by (leb k 7) e (λ zs h. forms_padded ks n zs h)
  where
    first : (o : Option (List ℕ)) (ws : List ℕ) → forms_of n ks ≡ o → with_first k o ≡ Some ws → ((zs : List ℕ) → forms_of n ks ≡ Some zs → Padded n ks zs) → Padded (suc n) (k ∷ ks) ws
    first None ws same h rest = absurd (none_some ws h)
    first (Some zs) [] same h rest = let z : ◌≡◌ {A = ℕ} 0 1 = cc (h) in absurd (omega arith)
    first (Some zs) (w ∷ ws) same h rest = (let e : k ≡ w = cc (h) in e, rest ws (same ∙ ap Some (let e : zs ≡ ws = cc (h) in e)))

    by : (t : Bool) → cond t (with_first k (forms_of n ks)) None ≡ Some ys → ((zs : List ℕ) → forms_of n ks ≡ Some zs → Padded n ks zs) → Padded (suc n) (k ∷ ks) ys
    by true h rest = first (forms_of n ks) ys refl h rest
    by false h rest = absurd (none_some ys h)

-- three forms that are 0 past the n-th, against a question's
module _ (g : ℕ → ℕ) (x y z : ℕ) where
  padded_same : (n : ℕ) → n ≤ 3 → ((a : ℕ) → a < 3 → n ≤ a → g a ≡ 0) → Padded n (x ∷ y ∷ z ∷ []) (listing n g) → (g 0 ≡ x) × (g 1 ≡ y) × (g 2 ≡ z)
  padded_same zero few past p = (past 0 (omega arith) (omega arith) ∙ sym p.0, past 1 (omega arith) (omega arith) ∙ sym p.1.0, past 2 (omega arith) (omega arith) ∙ sym p.1.1.0)
  padded_same (suc zero) few past p = (sym p.0, past 1 (omega arith) (omega arith) ∙ sym p.1.0, past 2 (omega arith) (omega arith) ∙ sym p.1.1.0)
  padded_same (suc (suc zero)) few past p = (sym p.0, sym p.1.0, past 2 (omega arith) (omega arith) ∙ sym p.1.1.0)
  padded_same (suc (suc (suc zero))) few past p = (sym p.0, sym p.1.0, sym p.1.1.0)
  padded_same (suc (suc (suc (suc n)))) few past p = absurd (omega arith)

  same_padded : (n : ℕ) → n ≤ 3 → (ks : List ℕ) → Padded n (x ∷ y ∷ z ∷ []) ks → g 0 ≡ x → g 1 ≡ y → g 2 ≡ z → ks ≡ listing n g
  same_padded zero few [] p e0 e1 e2 = refl
  same_padded zero few (k ∷ ks) p e0 e1 e2 = absurd p.1.1.1
  same_padded (suc zero) few [] p e0 e1 e2 = absurd p
  same_padded (suc zero) few (k ∷ []) p e0 e1 e2 = λ i. (sym p.0 ∙ sym e0) i ∷ []
  same_padded (suc zero) few (k ∷ l ∷ ks) p e0 e1 e2 = absurd p.1.1.1
  same_padded (suc (suc zero)) few [] p e0 e1 e2 = absurd p
  same_padded (suc (suc zero)) few (k ∷ []) p e0 e1 e2 = absurd p.1
  same_padded (suc (suc zero)) few (k ∷ l ∷ []) p e0 e1 e2 = λ i. (sym p.0 ∙ sym e0) i ∷ (sym p.1.0 ∙ sym e1) i ∷ []
  same_padded (suc (suc zero)) few (k ∷ l ∷ m ∷ ks) p e0 e1 e2 = absurd p.1.1.1
  same_padded (suc (suc (suc zero))) few [] p e0 e1 e2 = absurd p
  same_padded (suc (suc (suc zero))) few (k ∷ []) p e0 e1 e2 = absurd p.1
  same_padded (suc (suc (suc zero))) few (k ∷ l ∷ []) p e0 e1 e2 = absurd p.1.1
  same_padded (suc (suc (suc zero))) few (k ∷ l ∷ m ∷ []) p e0 e1 e2 = λ i. (sym p.0 ∙ sym e0) i ∷ (sym p.1.0 ∙ sym e1) i ∷ (sym p.1.1.0 ∙ sym e2) i ∷ []
  same_padded (suc (suc (suc zero))) few (k ∷ l ∷ m ∷ o ∷ ks) p e0 e1 e2 = absurd p.1.1.1
  same_padded (suc (suc (suc (suc n)))) few ks p e0 e1 e2 = absurd (omega arith)

-- a key written out: a function and three forms
abbrev pub Key : ℕ → ℕ → ℕ → ℕ → List ℕ
Key f x y z = f ∷ x ∷ y ∷ z ∷ []

key_is : (b : List ℕ) (r : ℕ) → key b r ≡ Key (rule_function b r) (argument_form b r 0) (argument_form b r 1) (argument_form b r 2)
key_is b r =
    let at = rule_at b r in
    let p0 : at + 0 ≡ at = omega arith in
    let p1 : at + 1 ≡ at + 1 + 0 = omega arith in
    let p2 : at + 2 ≡ at + 1 + 1 = omega arith in
    let p3 : at + 3 ≡ at + 1 + 2 = omega arith in
    λ i. byte b (p0 i) ∷ byte b (p1 i) ∷ byte b (p2 i) ∷ byte b (p3 i) ∷ []

module _ (b : List ℕ) (s : Sound b) where
  form_past : (r : ℕ) → r < rules b → (a : ℕ) → a < 3 → rule_arity b r ≤ a → argument_form b r a ≡ 0
  form_past r lt a al past =
      eqb-true _ _ (sym (cond-false (ltb a (rule_arity b r)) (leb (argument_form b r a) 7) (eqb (argument_form b r a) 0) (le-ltb a (rule_arity b r) past)) ∙ (s.rule_sound r lt).forms a al)

  arity_few : (r : ℕ) → r < rules b → rule_arity b r ≤ 3
  arity_few r lt = (s.function_sound (rule_function b r) (s.rule_sound r lt).known).arity_range

  -- a question that is in range, with the forms of the function's arguments
  module _ (f x y z : ℕ) (ks : List ℕ) (asked : forms_of (arity b f) (x ∷ y ∷ z ∷ []) ≡ Some ks) where
    match_key : (r : ℕ) → r < rules b → matching f ks (rule_entry b r) ≡ true → key b r ≡ Key f x y z
    match_key r lt m =
        let p = and_parts (eqb f (rule_function b r)) (bytes_eq ks (rule_entry b r).forms) m in
        let same : f ≡ rule_function b r = eqb-true _ _ p.0 in
        let forms : ks ≡ listing (rule_arity b r) (argument_form b r) = (bytes_eq-Decides ks (rule_entry b r).forms).0 p.1 in
        let padded = subst (λ g. Padded (arity b g) (x ∷ y ∷ z ∷ []) ks) same (forms_padded (x ∷ y ∷ z ∷ []) (arity b f) ks asked) in
        let q = padded_same (argument_form b r) x y z (rule_arity b r) (arity_few r lt) (form_past r lt) (subst (Padded (rule_arity b r) (x ∷ y ∷ z ∷ [])) forms padded) in
        key_is b r ∙ (λ i. sym same i ∷ q.0 i ∷ q.1 i ∷ q.2 i ∷ [])

    key_match : (r : ℕ) → r < rules b → key b r ≡ Key f x y z → matching f ks (rule_entry b r) ≡ true
    key_match r lt k =
        let whole : Key (rule_function b r) (argument_form b r 0) (argument_form b r 1) (argument_form b r 2) ≡ Key f x y z = sym (key_is b r) ∙ k in
        let e : rule_function b r ≡ f = cc (whole) in
        let e0 : argument_form b r 0 ≡ x = cc (whole) in
        let e1 : argument_form b r 1 ≡ y = cc (whole) in
        let e2 : argument_form b r 2 ≡ z = cc (whole) in
        let padded = subst (λ g. Padded (arity b g) (x ∷ y ∷ z ∷ []) ks) (sym e) (forms_padded (x ∷ y ∷ z ∷ []) (arity b f) ks asked) in
        and_from (eqb f (rule_function b r)) (bytes_eq ks (rule_entry b r).forms) (eq-eqb _ _ (sym e)) ((bytes_eq-Decides ks (rule_entry b r).forms).1 (same_padded (argument_form b r) x y z (rule_arity b r) (arity_few r lt) ks padded e0 e1 e2))

    one_key : (i j : ℕ) → i < rules b → j < rules b → key b i ≡ Key f x y z → key b j ≡ Key f x y z → j ≡ i
    one_key i j il jl p q =
        ⊎_elim (λ e. e) (λ way. absurd (⊎_elim
        (λ lt. clash j i il lt (q ∙ sym p))
        (λ lt. clash i j jl lt (p ∙ sym q))
        way)) (cases_order j i)
      where
        clash : (m n : ℕ) → n < rules b → m < n → key b m ≡ key b n → ⊥
        clash m n nl lt e = rises_not_itself (key b n) (subst (λ k. rises k (key b n) ≡ true) e (rising b (rules b) (λ r rl. (s.rule_sound r rl).rising) m n lt nl))

    -- the rule that is found by its key
    pub rule_found : (i : ℕ) → i < rules b → key b i ≡ Key f x y z → (image_meaning b).rule f ks ≡ Some (rule_entry b i).rule
    rule_found i lt k =
        let at : 0 + i ≡ i = omega arith in
        subst (λ j. (image_meaning b).rule f ks ≡ Some (rule_entry b j).rule) at
        (found_from (rule_entry b) f ks (rules b) 0 i lt (subst (λ j. matching f ks (rule_entry b j) ≡ true) (sym at) (key_match i lt k)) (λ j jl jm. let back : 0 + j ≡ j = omega arith in one_key i j lt jl k (match_key j jl (subst (λ n. matching f ks (rule_entry b n) ≡ true) back jm))))

    pub rule_missing : ((i : ℕ) → i < rules b → key b i ≡ Key f x y z → ⊥) → (image_meaning b).rule f ks ≡ None
    rule_missing no_key =
        none_from (rule_entry b) f ks (rules b) 0 (λ j jl jm. let back : 0 + j ≡ j = omega arith in no_key j jl (match_key j jl (subst (λ n. matching f ks (rule_entry b n) ≡ true) back jm)))
