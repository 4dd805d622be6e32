-- Lists made by counting: what they hold, how long they are, and what stands at a place.
use Rattle.std.proofs.Common.{◌≡◌, ℕ, zero, suc, ◌+◌, ◌<◌, map, length, Some, ap, ◌∙◌, subst, inl, inr, arith}
use Rattle.std.specs.List.{slice_get, range_with_len, AllByRecursion}
use Rattle.std.proofs.lemmas.List.FromFn.{length-map-range_with_len, get_or-map-range_with_len}
use Rattle.std.proofs.lemmas.Option.{slice_get-get_or}
use Rattle.view.specs.Grammar.{listing}
use Rattle.grammar.specs.Lists.{Holds}

module _ {A : Type 0} (f : ℕ → A) where
  pub listing_length : (n : ℕ) → length (listing n f) ≡ n
  listing_length n = length-map-range_with_len f 0 n

  pub listing_nth : (n i : ℕ) → i < n → slice_get (listing n f) i ≡ Some (f i)
  listing_nth n i lt =
      slice_get-get_or (listing n f) i (f i) (omega (arith, listing_length n)) ∙ ap Some (get_or-map-range_with_len f 0 n i i (f i) lt (omega arith))

  all_from : (P : A → Type 0) (n a : ℕ) → ((i : ℕ) → i < n → P (f (a + i))) → AllByRecursion P (map f (range_with_len a n))
  all_from P zero a h = tt
  all_from P (suc n) a h =
      (let e : a + 0 ≡ a = omega arith in subst (λ j. P (f j)) e (h 0 (omega arith)), all_from P n (a + 1) (λ i lt. let e : a + suc i ≡ a + 1 + i = omega arith in subst (λ j. P (f j)) e (h (suc i) (omega arith))))

  pub listing_all : (P : A → Type 0) (n : ℕ) → ((i : ℕ) → i < n → P (f i)) → AllByRecursion P (listing n f)
  listing_all P n h = all_from P n 0 (λ i lt. let e : i ≡ 0 + i = omega arith in subst (λ j. P (f j)) e (h i lt))

  holds_from : (n a : ℕ) (x : A) → Holds (map f (range_with_len a n)) x → (i : ℕ) × (i < n) × (x ≡ f (a + i))
  holds_from zero a x h = absurd h
  holds_from (suc n) a x (inl e) = (0, omega arith, e ∙ ap f (let z : a ≡ a + 0 = omega arith in z))
  holds_from (suc n) a x (inr h) =
      let p = holds_from n (a + 1) x h in
      (suc p.0, omega (arith, p.1), p.2 ∙ ap f (let z : a + 1 + p.0 ≡ a + suc p.0 = omega arith in z))

  pub listing_holds : (n : ℕ) (x : A) → Holds (listing n f) x → (i : ℕ) × (i < n) × (x ≡ f i)
  listing_holds n x h = let p = holds_from n 0 x h in (p.0, p.1, p.2 ∙ ap f (let z : 0 + p.0 ≡ p.0 = omega arith in z))
