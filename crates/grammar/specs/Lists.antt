-- Words on lists that the model uses: what a list holds, lists without repetition, and counting.
use Rattle.std.specs.Prelude.{◌≡◌, ℕ, ◌⊎◌, ◌↔◌, List, [], ◌∷◌, length}

-- x stands somewhere in the list
abbrev pub Holds : {A : Type 0} → List A → A → Type 0
Holds [] x = ⊥
Holds (y ∷ ys) x = (x ≡ y) ⊎ Holds ys x

-- no value stands twice in the list
abbrev pub Distinct : {A : Type 0} → List A → Type 0
Distinct [] = Unit {0}
Distinct (x ∷ xs) = (Holds xs x → ⊥) × Distinct xs

-- n is the number of values that have P
pub record Counted {A : Type 0} (P : A → Type 0) (n : ℕ) : Type 0 where
  pub values : List A
  pub distinct : Distinct values
  pub exactly : (x : A) → Holds values x ↔ P x
  pub count : length values ≡ n
