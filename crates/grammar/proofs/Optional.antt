-- What may be missing: something is not nothing, and a test tells which it is.
use Rattle.std.proofs.Common.{◌≡◌, ℕ, true, false, is_some, Some, None, Option, refl, arith}
use Rattle.std.proofs.lemmas.Bool.{true≢false, false≢true}

module _ {A : Type 0} where
  pub none_some : (x : A) → None ≡ Some x → ⊥
  none_some x e = let z : ◌≡◌ {A = ℕ} 0 1 = cc in omega arith

  pub some_value : (o : Option A) → is_some o ≡ true → (x : A) × (o ≡ Some x)
  some_value None e = absurd (false≢true e)
  some_value (Some x) e = (x, refl)

  pub no_value : (o : Option A) → is_some o ≡ false → o ≡ None
  no_value None e = refl
  no_value (Some x) e = absurd (true≢false e)
