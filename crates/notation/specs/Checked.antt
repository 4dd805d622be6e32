-- The test of a signature decides its law, function by function.
use Rattle.std.specs.Prelude.{◌≡◌, ℕ, ◌<◌, ◌≤◌, ◌&&◌, List, [], ◌∷◌, map, length, Decides, nat_le, nat_lt, refl}
use Rattle.std.proofs.Common.{ap}
use Rattle.std.specs.List.{list_all}
use Rattle.std.proofs.lemmas.Bool.{leb-true, le-leb}
use Rattle.std.proofs.lemmas.Bool.Decides.{Decides-and, Decides-ltb, Decides-like}
use Rattle.std.proofs.ByRecursion.{Decides-by_and}
use Rattle.grammar.specs.declared.signature.FunctionType.{FunctionType}
use Rattle.grammar.specs.Languages.{FunctionLawful, SignatureLawful}
use Rattle.grammar.specs.Signatures.{Function, Signature}
use Rattle.grammar.specs.Tables.{typed}
use Rattle.notation.specs.Checks.{all_below, function_fits, functions_fit, is_lawful}

decides_leb : (a b : ℕ) → Decides (nat_le a b) (a ≤ b)
decides_leb a b = (leb-true a b, le-leb a b)

function_decided : (s : Signature) (f : Function) → Decides (function_fits s.categories f) (FunctionLawful s f)
function_decided s f =
    Decides-like (function_fits s.categories f)
    (λ h. record { result_range = h.0; arity_range = h.1.0; argument_range = h.1.1 })
    (λ h. (h.result_range, (h.arity_range, h.argument_range)))
    (Decides-and _ _ (Decides-ltb f.result s.categories)
    (Decides-and _ _ (decides_leb (length f.arguments) 3)
    (Decides-by_and (λ c. nat_lt c s.categories) (λ c. c < s.categories) (all_below s.categories) (λ c. Decides-ltb c s.categories) refl (λ _ _. refl) f.arguments)))

pub lawful_decided : (s : Signature) → Decides (is_lawful s) (SignatureLawful s)
lawful_decided s =
    Decides-like (is_lawful s)
    (λ h. record {
      some_category = h.0.0.0.0.0;
      category_range = h.0.0.0.0.1;
      start_range = h.0.0.0.1;
      some_function = h.0.0.1;
      function_range = h.0.1;
      functions_lawful = h.1;
    })
    (λ h. (((((h.some_category, h.category_range), h.start_range), h.some_function), h.function_range), h.functions_lawful))
    (Decides-and _ _
    (Decides-and _ _
    (Decides-and _ _
    (Decides-and _ _
    (Decides-and _ _ (decides_leb 1 s.categories) (decides_leb s.categories 16))
    (Decides-ltb s.start s.categories))
    (decides_leb 1 (length s.functions)))
    (decides_leb (length s.functions) 64))
    (Decides-by_and (function_fits s.categories) (FunctionLawful s) (functions_fit s.categories) (function_decided s) refl (λ _ _. refl) s.functions))

-- whether each function fits
pub fit_all : (n : ℕ) (fs : List FunctionType) → list_all (λ f. function_fits n (typed f)) fs ≡ functions_fit n (map typed fs)
fit_all n [] = refl
fit_all n (f ∷ fs) = ap (λ b. function_fits n (typed f) && b) (fit_all n fs)
