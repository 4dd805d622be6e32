-- What the questions of the interface answer by the grammar of an image's bytes.
use Rattle.std.proofs.Common.{◌≡◌, ℕ, ◌<◌, ◌≤◌, List, Some, None, ap, ◌∙◌, arith}
use Rattle.std.specs.List.{slice_get}
use Rattle.std.specs.Option.{option_map}
use Rattle.std.proofs.lemmas.Option.{slice_get_past}
use Rattle.view.specs.Grammar.{listing, image_function, image_meaning}
use Rattle.view.specs.Layout.{functions, arity, argument}
use Rattle.grammar.specs.Questions.{asked, arguments_answer, function_arguments, key_of, forms_of}
use Rattle.soundness.proofs.Listings.{listing_length, listing_nth}

pub listing_past : {A : Type 0} (f : ℕ → A) (n i : ℕ) → n ≤ i → slice_get (listing n f) i ≡ None
listing_past f n i past = slice_get_past (listing n f) i (omega (arith, listing_length f n))

module _ (b : List ℕ) (f : ℕ) where
  pub arguments_known : f < functions b → arguments_answer (image_meaning b) f ≡ Some (listing (arity b f) (argument b f))
  arguments_known lt = ap (option_map function_arguments) (listing_nth (image_function b) (functions b) f lt)

  pub arguments_unknown : functions b ≤ f → arguments_answer (image_meaning b) f ≡ None
  arguments_unknown past = ap (option_map function_arguments) (listing_past (image_function b) (functions b) f past)

  pub asked_known : f < functions b → (forms : List ℕ) → asked (image_meaning b) f forms ≡ forms_of (arity b f) forms
  asked_known lt forms = ap (λ o. key_of o forms) (arguments_known lt) ∙ ap (λ n. forms_of n forms) (listing_length (argument b f) (arity b f))

  pub asked_unknown : functions b ≤ f → (forms : List ℕ) → asked (image_meaning b) f forms ≡ None
  asked_unknown past forms = ap (λ o. key_of o forms) (arguments_unknown past)
