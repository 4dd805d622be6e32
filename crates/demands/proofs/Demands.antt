-- What a list of demands answers: by its parts, and by the turns of a loop that checks them in order.
use denote.Param.Members.{Mut}
use Rattle.std.proofs.Common.{◌≡◌, ℕ, true, false, cond, List, [], ◌∷◌, ◌++◌, IsErr, IsErrAnd, Some, None, Option, MatchOption, Result, sym, refl, ap, ◌∙◌, subst, arith}
use Rattle.std.specs.Fn.{Called}
use Rattle.std.specs.Iterator.{AlwaysYields, TryCallsOnEach, TryForEachTurn, Yields}
use Rattle.std.specs.List.{flat_map, range_with_len, FoldsTo}
use Rattle.std.specs.Result.{result_from_control_flow}
use Rattle.std.specs.declared.ops.Range.{Range}
use Rattle.std.specs.declared.ops.ControlFlow.{ControlFlow}
use Rattle.std.specs.declared.ops.ControlFlow.TheVariants.{Continue, Break}
use Rattle.std.proofs.iter.Yields.{nat_range_steps}
use Rattle.std.proofs.lemmas.Iterator.{YieldsList-from_range}
use Rattle.std.proofs.lemmas.Result.{err_from_is_err_and}
use Rattle.flaw.specs.declared.kinds.ImageFault.{ImageFault}
use Rattle.demands.specs.Check.{Demand, each, first_broken}
use Rattle.demands.specs.Told.{told}

-- the exit of a `?` hands on the fault
pub handed_on : {T : Type 0} {f : ImageFault} {o : Option ImageFault} (r : Result T ImageFault) → IsErrAnd r (λ e. e ≡ f) → Some f ≡ o → told r ≡ o
handed_on r exit here = let p = err_from_is_err_and r exit in rw (p.1, p.2) here

-- demands that are kept leave the answer to those after them
pub passes : (xs ys : List Demand) {o : Option ImageFault} → None ≡ first_broken xs → o ≡ first_broken ys → o ≡ first_broken (xs ++ ys)
passes [] ys {o} kept rest = rest
passes (x ∷ xs) ys {o} kept rest =
    elim x.kept as (λ k. None ≡ cond k (first_broken xs) (Some x.fault) → o ≡ cond k (first_broken (xs ++ ys)) (Some x.fault)) [
      | true ↦ λ kept. passes xs ys kept rest
      | false ↦ λ broken. absurd (let z : ◌≡◌ {A = ℕ} 0 1 = cc in omega arith)
    ] kept

-- one that is broken answers for all after it
pub stops : (xs ys : List Demand) {f : ImageFault} → Some f ≡ first_broken xs → Some f ≡ first_broken (xs ++ ys)
stops [] ys {f} broken = absurd (let z : ◌≡◌ {A = ℕ} 0 1 = cc in omega arith)
stops (x ∷ xs) ys {f} broken =
    elim x.kept as (λ k. Some f ≡ cond k (first_broken xs) (Some x.fault) → Some f ≡ cond k (first_broken (xs ++ ys)) (Some x.fault)) [
      | true ↦ λ later. stops xs ys later
      | false ↦ λ here. here
    ] broken

-- a check that is tried on each item of a chain answers for the first that breaks a demand
module _ {S A F E : Type 0} (steps : S → Option A → S → Type 0) (v : A → ℕ) (g : Mut F (A × Unit {0}) (Result (Unit {0}) ImageFault)) (branches : Result (Unit {0}) ImageFault → ControlFlow E (Unit {0}) → Type 0) (resumes : E → Result (Unit {0}) ImageFault → Type 0)
    (goes : (w : Result (Unit {0}) ImageFault) → branches w (Continue tt) → None ≡ told w) (breaks : (w r : Result (Unit {0}) ImageFault) (e : E) → branches w (Break e) → resumes e r → (f : ImageFault) × (Some f ≡ told w) × (told r ≡ Some f))
    (d : ℕ → List Demand) (f : F) (says : (x : A) (w : Result (Unit {0}) ImageFault) (q : F) → Called g f (x, tt) w q → (q ≡ f) × (told w ≡ first_broken (d (v x)))) where
  walk : (xs : List A) (all : List ℕ) (s t u : S) (j : F) (o : Option A) (r : Result (Unit {0}) ImageFault) → AlwaysYields steps v s all → Yields steps s xs t → FoldsTo (TryForEachTurn g branches) f xs j → steps t o u
      → MatchOption o (branches r (Continue tt)) (λ x. (w : Result (Unit {0}) ImageFault) × (h : F) × (e : E) × Called g j (x, tt) w h × branches w (Break e) × resumes e r)
      → told r ≡ first_broken (flat_map d all)
  walk [] [] s t u j None r e y c p m = sym (goes r m)
  walk [] [] s t u j (Some x) r e y c p m = absurd (e x u (subst (λ k. steps k (Some x) u) (sym y) p))
  walk [] (z ∷ all) s t u j None r e y c p m = absurd (e.0 u (subst (λ k. steps k None u) (sym y) p))
  walk [] (z ∷ all) s t u j (Some x) r e y c p m =
      let said = says x m.0 m.1 (subst (λ k. Called g k (x, tt) m.0 m.1) (sym c) m.3) in
      let broken = breaks m.0 r m.2 m.4 m.5 in
      let here = broken.1 ∙ said.1 ∙ ap (λ n. first_broken (d n)) (e.1 x u (subst (λ k. steps k (Some x) u) (sym y) p)).0 in
      broken.2 ∙ stops (d z) (flat_map d all) here
  walk (x ∷ xs) [] s t u j o r e y c p m = absurd (e x y.0 y.1)
  walk (x ∷ xs) (z ∷ all) s t u j o r e y c p m =
      let next = e.1 x y.0 y.1 in
      let said = says x c.1.0 c.0 c.1.1 in
      let kept = goes c.1.0 c.1.2 ∙ said.1 ∙ ap (λ n. first_broken (d n)) next.0 in
      passes (d z) (flat_map d all) kept (walk xs all y.0 t u j o r next.1 y.2 (subst (λ k. FoldsTo (TryForEachTurn g branches) k xs j) said.0 c.2) p m)

-- the same of the numbers from 0 on, in the words of `try_for_each`
pub tried : {F : Type 0} {g : Mut F (ℕ × Unit {0}) (Result (Unit {0}) ImageFault)} (d : ℕ → List Demand) (n : ℕ) {f : F} {s u : Range ℕ} {r : Result (Unit {0}) ImageFault}
    → ((x : ℕ) (w : Result (Unit {0}) ImageFault) (q : F) → Called g f (x, tt) w q → (q ≡ f) × (told w ≡ first_broken (d x)))
    → s ≡ record { start = 0; end = n }
    → TryCallsOnEach nat_range_steps g (λ w c. w ≡ result_from_control_flow c) (λ e r. IsErr r × IsErrAnd r (λ x. x ≡ e.0)) s f r u → told r ≡ first_broken (each n d)
tried {g = g} d n {f} {s} {u} {r} says from ran =
    let gives = YieldsList-from_range 0 n n from (omega arith) in
    walk nat_range_steps (λ x. x) g (λ w c. w ≡ result_from_control_flow c) (λ e r. IsErr r × IsErrAnd r (λ x. x ≡ e.0)) (λ w same. sym (ap told same)) (λ w r e same exit. (e.0, sym (ap told same), handed_on r exit.1 refl)) d f says ran.0 (range_with_len 0 n) s ran.3.0 u ran.2 ran.1 r gives.runs ran.3.1 ran.4 ran.3.2 ran.5
