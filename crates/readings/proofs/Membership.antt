-- What lists hold that are joined, mapped or filtered, and lists of which each earlier element is related to every later one.
use Rattle.std.proofs.Common.{◌≡◌, Bool, true, false, cond, ◌⊎◌, List, [], ◌∷◌, ◌++◌, map, filter, sym, refl, ap, ◌∙◌, subst, inl, inr, ⊎_elim}
use Rattle.std.specs.List.{flat_map, AllByRecursion}
use Rattle.std.proofs.ByRecursion.{All-append, All-weaker}
use Rattle.grammar.specs.Lists.{Holds}

module _ {A : Type 0} where
  pub holds_left : (xs ys : List A) (x : A) → Holds xs x → Holds (xs ++ ys) x
  holds_left [] ys x h = absurd h
  holds_left (z ∷ xs) ys x (inl e) = inl e
  holds_left (z ∷ xs) ys x (inr h) = inr (holds_left xs ys x h)

  pub holds_right : (xs ys : List A) (x : A) → Holds ys x → Holds (xs ++ ys) x
  holds_right [] ys x h = h
  holds_right (z ∷ xs) ys x h = inr (holds_right xs ys x h)

  pub holds_cases : (xs ys : List A) (x : A) → Holds (xs ++ ys) x → Holds xs x ⊎ Holds ys x
  holds_cases [] ys x h = inr h
  holds_cases (z ∷ xs) ys x (inl e) = inl (inl e)
  holds_cases (z ∷ xs) ys x (inr h) = ⊎_elim (λ k. inl (inr k)) inr (holds_cases xs ys x h)

  pub all_holds : (P : A → Type 0) (xs : List A) → AllByRecursion P xs → (x : A) → Holds xs x → P x
  all_holds P [] a x h = absurd h
  all_holds P (y ∷ ys) a x (inl e) = subst P (sym e) a.0
  all_holds P (y ∷ ys) a x (inr h) = all_holds P ys a.1 x h

  pub holds_all : (P : A → Type 0) (xs : List A) → ((x : A) → Holds xs x → P x) → AllByRecursion P xs
  holds_all P [] f = tt
  holds_all P (y ∷ ys) f = (f y (inl refl), holds_all P ys (λ x h. f x (inr h)))

  pub holds_kept : (test : A → Bool) (xs : List A) (x : A) → Holds xs x → test x ≡ true → Holds (filter test xs) x
  holds_kept test [] x h e = absurd h
  holds_kept test (y ∷ ys) x (inl same) e = rw (sym (ap test same) ∙ e) (inl same)
  holds_kept test (y ∷ ys) x (inr h) e = further (test y) (holds_kept test ys x h e)
    where
      further : (b : Bool) → Holds (filter test ys) x → Holds (cond b (y ∷ filter test ys) (filter test ys)) x
      further true k = inr k
      further false k = k

  pub kept_holds : (test : A → Bool) (xs : List A) (x : A) → Holds (filter test xs) x → Holds xs x × (test x ≡ true)
  kept_holds test [] x h = absurd h
  kept_holds test (y ∷ ys) x h = parts (λ k. kept_holds test ys x k) (test y) refl h
    where
      later : Holds ys x × (test x ≡ true) → Holds (y ∷ ys) x × (test x ≡ true)
      later p = (inr p.0, p.1)

      parts : (Holds (filter test ys) x → Holds ys x × (test x ≡ true)) → (b : Bool) → test y ≡ b → Holds (cond b (y ∷ filter test ys) (filter test ys)) x → Holds (y ∷ ys) x × (test x ≡ true)
      parts below true e (inl same) = (inl same, ap test same ∙ e)
      parts below true e (inr k) = later (below k)
      parts below false e k = later (below k)

module _ {A B : Type 0} (f : A → B) where
  pub holds_map : (xs : List A) (x : A) → Holds xs x → Holds (map f xs) (f x)
  holds_map [] x h = absurd h
  holds_map (y ∷ ys) x (inl e) = inl (ap f e)
  holds_map (y ∷ ys) x (inr h) = inr (holds_map ys x h)

  pub map_holds : (xs : List A) (z : B) → Holds (map f xs) z → (x : A) × Holds xs x × (z ≡ f x)
  map_holds [] z h = absurd h
  map_holds (y ∷ ys) z (inl e) = (y, inl refl, e)
  map_holds (y ∷ ys) z (inr h) = let p = map_holds ys z h in (p.0, inr p.1, p.2)

module _ {A B : Type 0} (f : A → List B) where
  pub holds_joined : (xs : List A) (x : A) (z : B) → Holds xs x → Holds (f x) z → Holds (flat_map f xs) z
  holds_joined [] x z h k = absurd h
  holds_joined (y ∷ ys) x z (inl e) k = holds_left (f y) (flat_map f ys) z (subst (λ w. Holds (f w) z) e k)
  holds_joined (y ∷ ys) x z (inr h) k = holds_right (f y) (flat_map f ys) z (holds_joined ys x z h k)

  pub joined_holds : (xs : List A) (z : B) → Holds (flat_map f xs) z → (x : A) × Holds xs x × Holds (f x) z
  joined_holds [] z h = absurd h
  joined_holds (y ∷ ys) z h =
      ⊎_elim (λ k. (y, inl refl, k)) (λ k. let p = joined_holds ys z k in (p.0, inr p.1, p.2)) (holds_cases (f y) (flat_map f ys) z h)

-- each earlier element is related to every later one
abbrev pub Pairwise : {A : Type 0} → (A → A → Type 0) → List A → Type 0
Pairwise R [] = Unit {0}
Pairwise R (x ∷ xs) = AllByRecursion (R x) xs × Pairwise R xs

module _ {A : Type 0} (R : A → A → Type 0) where
  pub pairwise_append : (xs ys : List A) → Pairwise R xs → Pairwise R ys → ((x y : A) → Holds xs x → Holds ys y → R x y) → Pairwise R (xs ++ ys)
  pairwise_append [] ys p q between = q
  pairwise_append (x ∷ xs) ys p q between =
      (All-append (R x) xs ys p.0 (holds_all (R x) ys (λ y h. between x y (inl refl) h)), pairwise_append xs ys p.1 q (λ z y h k. between z y (inr h) k))

  pub pairwise_kept : (test : A → Bool) (xs : List A) → Pairwise R xs → Pairwise R (filter test xs)
  pairwise_kept test [] p = tt
  pairwise_kept test (x ∷ xs) p = kept (pairwise_kept test xs p.1) (test x)
    where
      kept : Pairwise R (filter test xs) → (b : Bool) → Pairwise R (cond b (x ∷ filter test xs) (filter test xs))
      kept below true = (holds_all (R x) (filter test xs) (λ y h. all_holds (R x) xs p.0 y (kept_holds test xs y h).0), below)
      kept below false = below

  pub pairwise_weaker : (S : A → A → Type 0) → ((x y : A) → R x y → S x y) → (xs : List A) → Pairwise R xs → Pairwise S xs
  pairwise_weaker S f [] p = tt
  pairwise_weaker S f (x ∷ xs) p = (All-weaker (R x) (S x) (λ y. f x y) xs p.0, pairwise_weaker S f xs p.1)

pub pairwise_map : {A B : Type 0} (R : A → A → Type 0) (S : B → B → Type 0) (f : A → B) → ((x y : A) → R x y → S (f x) (f y)) → (xs : List A) → Pairwise R xs → Pairwise S (map f xs)
pairwise_map R S f step [] p = tt
pairwise_map R S f step (x ∷ xs) p = (moved xs p.0, pairwise_map R S f step xs p.1)
  where
    moved : (ys : List _) → AllByRecursion (R x) ys → AllByRecursion (S (f x)) (map f ys)
    moved [] a = tt
    moved (y ∷ ys) a = (step x y a.0, moved ys a.1)
