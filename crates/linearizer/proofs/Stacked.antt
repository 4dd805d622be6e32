-- What the values on a stack owe, each at its level, and a number that falls with each step over them.
use Rattle.std.proofs.Common.{◌≡◌, ℕ, zero, suc, ◌+◌, ◌-◌, ◌*◌, ◌^◌, ◌<◌, ◌≤◌, List, [], ◌∷◌, ◌++◌, length, sym, refl, ap, ◌∙◌, subst, append_assoc, append-nil, mul-le-mul_left, mul-one, mul-add, arith}
use Rattle.std.proofs.lemmas.List.{length-append}

-- each value, from level l at the bottom, owes its part; what lies above it comes first
abbrev pub Stacked : {A B : Type 0} → (ℕ → A → List B → Type 0) → ℕ → List A → List B → Type 0
Stacked P l [] ws = ws ≡ []
Stacked {B = B} P l (x ∷ xs) ws = (above : List B) × (mine : List B) × (ws ≡ above ++ mine) × P l x mine × Stacked P (suc l) xs above

module _ {A B : Type 0} (P : ℕ → A → List B → Type 0) where
  pub stacked_push : (l : ℕ) (xs : List A) (x : A) (mine ws : List B) → P (l + length xs) x mine → Stacked P l xs ws → Stacked P l (xs ++ x ∷ []) (mine ++ ws)
  stacked_push l [] x mine ws p s =
      let here : l + 0 ≡ l = omega arith in
      ([], mine, ap (λ v. mine ++ v) s ∙ append-nil mine, subst (λ k. P k x mine) here p, refl)
  stacked_push l (y ∷ xs) x mine ws p s =
      let on : l + suc (length xs) ≡ suc l + length xs = omega arith in
      (mine ++ s.0, s.1, ap (λ v. mine ++ v) s.2 ∙ sym (append_assoc mine s.0 s.1), s.3, stacked_push (suc l) xs x mine s.0 (subst (λ k. P k x mine) on p) s.4)

  pub stacked_pop : (l : ℕ) (xs : List A) (x : A) (ws : List B) → Stacked P l (xs ++ x ∷ []) ws → (mine : List B) × (rest : List B) × (ws ≡ mine ++ rest) × P (l + length xs) x mine × Stacked P l xs rest
  stacked_pop l [] x ws s =
      let here : l ≡ l + 0 = omega arith in
      (s.1, [], s.2 ∙ ap (λ v. v ++ s.1) s.4 ∙ sym (append-nil s.1), subst (λ k. P k x s.1) here s.3, refl)
  stacked_pop l (y ∷ xs) x ws s =
      let q = stacked_pop (suc l) xs x s.0 s.4 in
      let on : suc l + length xs ≡ l + suc (length xs) = omega arith in
      (q.0, q.1 ++ s.1, s.2 ∙ ap (λ v. v ++ s.1) q.2 ∙ append_assoc q.0 q.1 s.1, subst (λ k. P k x q.0) on q.3, (q.1, s.1, refl, s.3, q.4))

-- a value that has so many steps left weighs more than all that can come to lie above it
abbrev pub weight : {A : Type 0} → (A → ℕ) → ℕ → A → ℕ
weight left l x = 10 ^ (5 - l) * left x + 1

abbrev pub weights : {A : Type 0} → (A → ℕ) → ℕ → List A → ℕ
weights left l [] = 0
weights left l (x ∷ xs) = weight left l x + weights left (suc l) xs

-- of the values on a stack and the one at work above them
abbrev pub potential : {A : Type 0} → (A → ℕ) → List A → A → ℕ
potential left xs x = weights left 0 xs + weight left (length xs) x

some_power : (d : ℕ) → 1 ≤ 10 ^ d
some_power zero = omega arith
some_power (suc d) = let more : 10 * 10 ^ d ≡ 10 ^ suc d = omega arith in omega (arith, more, some_power d)

module _ {A : Type 0} (left : A → ℕ) where
  weights_push : (l : ℕ) (xs : List A) (x : A) → weights left l (xs ++ x ∷ []) ≡ weights left l xs + weight left (l + length xs) x
  weights_push l [] x = let here : l ≡ l + 0 = omega arith in omega (arith, ap (λ k. weight left k x) here)
  weights_push l (y ∷ xs) x =
      let on : suc l + length xs ≡ l + suc (length xs) = omega arith in
      omega (arith, weights_push (suc l) xs x, ap (λ k. weight left k x) on)

  on_top : (xs : List A) (x : A) → weights left 0 (xs ++ x ∷ []) ≡ potential left xs x
  on_top xs x =
      let here : 0 + length xs ≡ length xs = omega arith in
      weights_push 0 xs x ∙ ap (λ k. weights left 0 xs + weight left k x) here

  -- one step less is left
  pub potential_step : (xs : List A) (x y : A) → left y + 1 ≡ left x → potential left xs y < potential left xs x
  potential_step xs x y e =
      let p = 10 ^ (5 - length xs) in
      omega (arith, ap (λ n. p * n) e, mul-add p (left y) 1, mul-one p, some_power (5 - length xs))

  -- the top value comes to work, and the one at work is done
  pub potential_pop : (xs ys : List A) (x y : A) → xs ≡ ys ++ y ∷ [] → potential left ys y < potential left xs x
  potential_pop xs ys x y e = omega (arith, ap (weights left 0) e, on_top ys y)

  -- one step less is left to the value at work, and above it another comes to work
  pub potential_push : (xs : List A) (x y z : A) → length xs ≤ 4 → left y + 1 ≡ left x → left z ≤ 8 → potential left (xs ++ y ∷ []) z < potential left xs x
  potential_push xs x y z few e le =
      let d = 4 - length xs in
      let p = 10 ^ d in
      let up : 5 - length xs ≡ suc d = omega arith in
      let more : 10 * p ≡ 10 ^ suc d = omega arith in
      let down : 5 - length (xs ++ y ∷ []) ≡ d = omega (arith, length-append xs (y ∷ [])) in
      let ten : 10 ^ (5 - length xs) ≡ 10 * p = omega (arith, ap (λ k. 10 ^ k) up, more) in
      omega (
        arith,
        on_top xs y,
        ap (λ n. 10 ^ (5 - length xs) * n) e,
        mul-add (10 ^ (5 - length xs)) (left y) 1,
        mul-one (10 ^ (5 - length xs)),
        ten,
        ap (λ k. 10 ^ k * left z) down,
        mul-le-mul_left p le,
        some_power d,
      )
