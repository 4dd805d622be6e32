-- What a test of the forms of a question knows after the first of them.
use Rattle.std.proofs.Common.{◌≡◌, ℕ, zero, suc, ◌-◌, ◌<◌, Bool, true, false, cond, ◌&&◌, eqb, leb, List, ◌∷◌, is_some, Some, None, Option, refl, ap, ◌∙◌, arith}
use Rattle.grammar.specs.Questions.{forms_of, with_first}

first_or_none : (k : ℕ) (o : Option (List ℕ)) → is_some (with_first k o) ≡ is_some o
first_or_none k None = refl
first_or_none k (Some ks) = refl

cond_first : (b : Bool) (k : ℕ) (o : Option (List ℕ)) → is_some (cond b (with_first k o) None) ≡ (b && is_some o)
cond_first true k o = first_or_none k o
cond_first false k o = refl

cond_rest : (b : Bool) (o : Option (List ℕ)) → is_some (cond b o None) ≡ (b && is_some o)
cond_rest true o = refl
cond_rest false o = refl

-- past the arguments
pub no_argument_left : (k : ℕ) (ks : List ℕ) → is_some (forms_of 0 (k ∷ ks)) ≡ (eqb k 0 && is_some (forms_of 0 ks))
no_argument_left k ks = cond_rest (eqb k 0) (forms_of 0 ks)

-- with an argument more
pub an_argument_more : (n k : ℕ) (ks : List ℕ) → 0 < n → is_some (forms_of n (k ∷ ks)) ≡ (leb k 7 && is_some (forms_of (n - 1) ks))
an_argument_more zero k ks h = absurd (omega arith)
an_argument_more (suc n) k ks h =
    let less : n ≡ suc n - 1 = omega arith in
    cond_first (leb k 7) k (forms_of n ks) ∙ ap (λ l. leb k 7 && is_some (forms_of l ks)) less
