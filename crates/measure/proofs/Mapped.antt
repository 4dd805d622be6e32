-- What the `map` of an array gives, by a closure that stays as it is.
use denote.Param.Members.{Mut, Called}
use Rattle.std.proofs.Common.{◌≡◌, ℕ, zero, suc, ◌+◌, ◌<◌, ◌≤◌, List, get_or, sym, subst, ⊎_elim, arith}
use Rattle.std.specs.Array.{MapsFrom}
use Rattle.std.proofs.lemmas.Bool.{cases_lt}

module _ {F A B : Type 0} (g : Mut F (A × Unit {0}) B) (f : F) (P : A → B → Type 0) (call : (x : A) (y : B) (q : F) → Called g f (x, tt) y q → (q ≡ f) × P x y) (xs : List A) (ys : List B) where
  pub maps_each : (i n : ℕ) → MapsFrom g f xs ys i n → (d : A) (e : B) (k : ℕ) → i ≤ k → k < i + n → P (get_or xs k d) (get_or ys k e)
  maps_each i zero all d e k le lt = absurd (omega arith)
  maps_each i (suc n) (q, x, y, from, to, called, rest) d e k le lt =
      let one = call x y q called in
      ⊎_elim
      (λ past. maps_each (i + 1) n (subst (λ p. MapsFrom g p xs ys (i + 1) n) one.0 rest) d e k (omega arith) (omega arith))
      (λ last.
      let same : i ≡ k = omega arith in
      let here : P (get_or xs i d) (get_or ys i e) = subst (λ a. P a (get_or ys i e)) (sym (from.1 d)) (subst (P x) (sym (to.1 e)) one.1) in
      subst (λ j. P (get_or xs j d) (get_or ys j e)) same here)
      (cases_lt i k)
