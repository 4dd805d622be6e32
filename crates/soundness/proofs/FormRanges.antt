-- When three forms are those of so many arguments.
use Rattle.std.proofs.Common.{◌≡◌, ℕ, zero, suc, ◌≤◌, Bool, true, false, cond, ◌&&◌, eqb, ltb, leb, List, [], ◌∷◌, length, get_or, is_some, Some, None, Option, sym, refl, ap, ◌∙◌, arith}
use Rattle.grammar.specs.Questions.{forms_of, with_first}

-- the form at place a of n arguments is in range
abbrev pub in_range : ℕ → ℕ → ℕ → Bool
in_range a n k = cond (ltb a n) (leb k 7) (eqb k 0)

guarded : {A : Type 0} (t : Bool) (o : Option A) → is_some (cond t o None) ≡ (t && is_some o)
guarded true o = refl
guarded false o = refl

first_some : (k : ℕ) (o : Option (List ℕ)) → is_some (with_first k o) ≡ is_some o
first_some k None = refl
first_some k (Some ks) = refl

there : (k : ℕ) (o : Option (List ℕ)) → is_some (cond (leb k 7) (with_first k o) None) ≡ (leb k 7 && is_some o)
there k o = guarded (leb k 7) (with_first k o) ∙ ap (λ b. leb k 7 && b) (first_some k o)

and_true : (b : Bool) → (b && true) ≡ b
and_true true = refl
and_true false = refl

and_assoc : (a b c : Bool) → ((a && b) && c) ≡ (a && (b && c))
and_assoc true b c = refl
and_assoc false b c = refl

three : (n x y z : ℕ) → n ≤ 3 → is_some (forms_of n (x ∷ y ∷ z ∷ [])) ≡ (in_range 0 n x && (in_range 1 n y && in_range 2 n z))
three zero x y z few =
    guarded (eqb x 0) _ ∙ ap (λ b. eqb x 0 && b) (guarded (eqb y 0) _ ∙ ap (λ b. eqb y 0 && b) (guarded (eqb z 0) _ ∙ and_true (eqb z 0)))
three (suc zero) x y z few =
    there x _ ∙ ap (λ b. leb x 7 && b) (guarded (eqb y 0) _ ∙ ap (λ b. eqb y 0 && b) (guarded (eqb z 0) _ ∙ and_true (eqb z 0)))
three (suc (suc zero)) x y z few =
    there x _ ∙ ap (λ b. leb x 7 && b) (there y _ ∙ ap (λ b. leb y 7 && b) (guarded (eqb z 0) _ ∙ and_true (eqb z 0)))
three (suc (suc (suc zero))) x y z few =
    there x _ ∙ ap (λ b. leb x 7 && b) (there y _ ∙ ap (λ b. leb y 7 && b) (there z (Some []) ∙ and_true (leb z 7)))
three (suc (suc (suc (suc n)))) x y z few = absurd (omega arith)

pub three_of : (ks : List ℕ) → length ks ≡ 3 → ks ≡ get_or ks 0 0 ∷ get_or ks 1 0 ∷ get_or ks 2 0 ∷ []
three_of [] e = absurd (omega arith)
three_of (x ∷ []) e = absurd (omega arith)
three_of (x ∷ y ∷ []) e = absurd (omega arith)
three_of (x ∷ y ∷ z ∷ []) e = refl
three_of (x ∷ y ∷ z ∷ w ∷ ks) e = absurd (omega arith)

pub forms_in_range : (n : ℕ) (ks : List ℕ) → n ≤ 3 → length ks ≡ 3 → is_some (forms_of n ks) ≡ ((in_range 0 n (get_or ks 0 0) && in_range 1 n (get_or ks 1 0)) && in_range 2 n (get_or ks 2 0))
forms_in_range n ks few long =
    ap (λ l. is_some (forms_of n l)) (three_of ks long) ∙ three n (get_or ks 0 0) (get_or ks 1 0) (get_or ks 2 0) few ∙ sym (and_assoc (in_range 0 n (get_or ks 0 0)) _ _)
