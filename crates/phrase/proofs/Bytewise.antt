-- A word of a language against bytes: it is these bytes when its length and each of its bytes are the same.
use Rattle.std.proofs.Common.{◌≡◌, ℕ, ◌<◌, Bool, true, false, List, length, get_or, Some, None, Decides, Option, sym, refl, ap, ◌∙◌, arith}
use Rattle.std.specs.Bool.{MatchBool}
use Rattle.std.specs.List.{slice_get}
use Rattle.std.specs.Option.{option_map}
use Rattle.std.proofs.lemmas.List.{same_lists}
use Rattle.std.proofs.lemmas.Option.{slice_get-get_or}
use Rattle.std.proofs.lemmas.Bool.{false≢true}
use Rattle.grammar.specs.Languages.{Spelling}
use Rattle.grammar.specs.Questions.{at}
use Rattle.grammar.proofs.Optional.{none_some}

pub decides_no : (P : Type 0) → (P → ⊥) → Decides false P
decides_no P never = (λ e. absurd (false≢true e), λ p. absurd (never p))

pub decides_yes : (P : Type 0) → P → Decides true P
decides_yes P p = (λ e. p, λ q. refl)

-- the byte at a place is the same in both
abbrev pub Alike : Option Spelling → List ℕ → ℕ → Type 0
Alike o bytes k = at o k ≡ slice_get bytes k

all_alike : (o : Option Spelling) (bytes : List ℕ) (n : ℕ) → option_map length o ≡ Some n → n ≡ length bytes → ((k : ℕ) → k < n → Alike o bytes k) → o ≡ Some bytes
all_alike None bytes n long whole same = absurd (none_some n long)
all_alike (Some w) bytes n long whole same =
    let here : length w ≡ n = cc in
    ap Some (same_lists w bytes (here ∙ whole) (λ k d lt.
    let one : Some (get_or w k d) ≡ Some (get_or bytes k d) = sym (slice_get-get_or w k d lt) ∙ same k (omega arith) ∙ slice_get-get_or bytes k d (omega arith) in
    cc))

pub alike_decides : (o : Option Spelling) (bytes : List ℕ) (n : ℕ) (r : Bool) → option_map length o ≡ Some n → n ≡ length bytes → MatchBool r ((k : ℕ) → k < n → Alike o bytes k) ((k : ℕ) × (k < n) × (Alike o bytes k → ⊥)) → Decides r (o ≡ Some bytes)
alike_decides o bytes n true long whole found = decides_yes _ (all_alike o bytes n long whole found)
alike_decides o bytes n false long whole found = decides_no _ (λ e. found.2 (ap (λ p. at p found.0) e))
