-- The grammar that sound bytes state keeps the law of languages.
use Rattle.std.proofs.Common.{◌≡◌, ℕ, ◌+◌, ◌-◌, ◌/◌, ◌%◌, ◌<◌, ◌≤◌, Bool, true, false, cond, ◌&&◌, eqb, ltb, leb, List, [], ◌∷◌, length, drop, Some, sym, refl, ap, ◌∙◌, subst, inl, inr, ⊎_elim, arith}
use Rattle.std.specs.List.{slice_get, AllByRecursion}
use Rattle.std.specs.Str.{bytes_eq}
use Rattle.std.proofs.lemmas.Slice.Eq.{bytes_eq-Decides}
use Rattle.std.proofs.lemmas.List.{length-take-le, length-drop}
use Rattle.std.proofs.lemmas.Bool.{leb-true, ltb-true, eqb-true, lt-ltb, and_parts, or_cases, cond-true}
use Rattle.demands.specs.Check.{all_permitted, symbol_sound}
use Rattle.view.specs.Grammar.{listing, image_function, image_meaning, rule_entry, sequence, symbol_of}
use Rattle.view.specs.Layout.{categories, functions, words, rules, symbols, spelled_from, dimension, result, arity, argument, word_offset, word_length, spelling, rule_function, argument_form, first_symbol, symbol_count, rule_arity, rule_dimension, symbol_bits}
use Rattle.grammar.specs.declared.symbol.Symbol.{Symbol}
use Rattle.grammar.specs.Languages.{Rule, Lawful, RuleLawful, SymbolLawful, FunctionLawful, Permitted}
use Rattle.grammar.specs.Lists.{Holds}
use Rattle.grammar.specs.PhraseWalk.{permitted}
use Rattle.grammar.specs.RuleTables.{Entry, from_table}
use Rattle.grammar.specs.Signatures.{Function}
use Rattle.soundness.specs.Laws.{SoundImagesAreLawful}
use Rattle.soundness.proofs.Listings.{listing_length, listing_nth, listing_all, listing_holds}
use Rattle.soundness.proofs.Sound.{Sound, sound}

permitted_told : (c : ℕ) → permitted c ≡ true → Permitted c
permitted_told c e =
    ⊎_elim
    (λ h. let p = and_parts (leb 0x21 c) (leb c 0x7E) h in inl (leb-true _ _ p.0, leb-true _ _ p.1))
    (λ h. let p = and_parts (leb 0x80 c) (leb c 0xFF) h in inr (leb-true _ _ p.0, leb-true _ _ p.1))
    (or_cases (leb 0x21 c && leb c 0x7E) (leb 0x80 c && leb c 0xFF) e)

all_permitted_told : (cs : List ℕ) → all_permitted cs ≡ true → AllByRecursion Permitted cs
all_permitted_told [] e = tt
all_permitted_told (c ∷ cs) e = let p = and_parts (permitted c) (all_permitted cs) e in (permitted_told c p.0, all_permitted_told cs p.1)

-- the entry from which a table has a rule
pub from_entry : (es : List Entry) (f : ℕ) (forms : List ℕ) (r : Rule) → from_table es f forms ≡ Some r → (e : Entry) × Holds es e × (e.function ≡ f) × (e.forms ≡ forms) × (e.rule ≡ r)
from_entry [] f forms r h = let z : ◌≡◌ {A = ℕ} 0 1 = cc in absurd (omega arith)
from_entry (e ∷ es) f forms r h = by (eqb f e.function && bytes_eq forms e.forms) refl h (λ k. from_entry es f forms r k)
  where
    by : (t : Bool) → (eqb f e.function && bytes_eq forms e.forms) ≡ t → cond t (Some e.rule) (from_table es f forms) ≡ Some r → (from_table es f forms ≡ Some r → (x : Entry) × Holds es x × (x.function ≡ f) × (x.forms ≡ forms) × (x.rule ≡ r)) → (x : Entry) × Holds (e ∷ es) x × (x.function ≡ f) × (x.forms ≡ forms) × (x.rule ≡ r)
    by true t k rest =
        let p = and_parts (eqb f e.function) (bytes_eq forms e.forms) t in
        (e, inl refl, sym (eqb-true _ _ p.0), sym ((bytes_eq-Decides forms e.forms).0 p.1), let same : e.rule ≡ r = cc (k) in same)
    by false t k rest = let x = rest k in (x.0, inr x.1, x.2, x.3, x.4)

module _ (b : List ℕ) (s : Sound b) where
  argument_below : (f : ℕ) → f < functions b → (a : ℕ) → a < arity b f → argument b f a < categories b
  argument_below f lt a al =
      let p = s.function_sound f lt in
      ltb-true _ _ (sym (cond-true (ltb a (arity b f)) (ltb (argument b f a) (categories b)) (eqb (argument b f a) 0) (lt-ltb a (arity b f) al)) ∙ p.argument_known a (omega (arith, p.arity_range)))

  function_lawful : (f : ℕ) → f < functions b → FunctionLawful (image_meaning b).signature (image_function b f)
  function_lawful f lt =
      let p = s.function_sound f lt in
      record {
        result_range = p.result_known;
        arity_range = omega (arith, listing_length (argument b f) (arity b f), p.arity_range);
        argument_range = listing_all (argument b f) (λ c. c < categories b) (arity b f) (argument_below f lt);
      }

  pub word_long : (w : ℕ) → w < words b → length (spelling b w) ≡ word_length b w
  word_long w lt =
      let p = s.word_sound w lt in
      length-take-le (word_length b w) (drop (spelled_from b + word_offset b w) b) (omega (arith, length-drop (spelled_from b + word_offset b w) b, p.inside, s.whole))

  -- a reference or a word, as the bits say
  symbol_lawful : (f : ℕ) → f < functions b → (bits : ℕ) → symbol_sound b f bits ≡ true → SymbolLawful (image_meaning b) (image_function b f) (symbol_of bits)
  symbol_lawful f lt bits e = by (ltb bits 0x8000) e
    where
      by : (t : Bool) → cond t (ltb bits (words b)) (ltb ((bits - 0x8000) / 4) (arity b f) && ltb ((bits - 0x8000) % 4) (dimension b (argument b f ((bits - 0x8000) / 4)))) ≡ true → SymbolLawful (image_meaning b) (image_function b f) (cond t (Symbol.Word bits) (Symbol.Reference ((bits - 0x8000) / 4) ((bits - 0x8000) % 4)))
      by true h = omega (arith, ltb-true _ _ h, listing_length (spelling b) (words b))
      by false h =
          let p = and_parts (ltb ((bits - 0x8000) / 4) (arity b f)) (ltb ((bits - 0x8000) % 4) (dimension b (argument b f ((bits - 0x8000) / 4)))) h in
          let al = ltb-true _ _ p.0 in
          (argument b f ((bits - 0x8000) / 4), dimension b (argument b f ((bits - 0x8000) / 4)), listing_nth (argument b f) (arity b f) _ al, listing_nth (dimension b) (categories b) _ (argument_below f lt _ al), ltb-true _ _ p.1)

  dimension_few : (r : ℕ) → r < rules b → rule_dimension b r ≤ 4
  dimension_few r lt = let p = s.rule_sound r lt in (s.dimension_range (result b (rule_function b r)) (s.function_sound (rule_function b r) p.known).result_known).1

  form_few : (r : ℕ) → r < rules b → (a : ℕ) → a < rule_arity b r → argument_form b r a ≤ 7
  form_few r lt a al =
      let p = s.rule_sound r lt in
      let q = s.function_sound (rule_function b r) p.known in
      leb-true _ _ (sym (cond-true (ltb a (rule_arity b r)) (leb (argument_form b r a) 7) (eqb (argument_form b r a) 0) (lt-ltb a (rule_arity b r) al)) ∙ p.forms a (omega (arith, q.arity_range)))

  -- a constituent that the result has: at most 8 symbols, within the section
  constituent_told : (r : ℕ) → r < rules b → (k : ℕ) → k < rule_dimension b r → (leb (symbol_count b r k) 8 && leb (first_symbol b r k + symbol_count b r k) (symbols b)) ≡ true
  constituent_told r lt k kl =
      let p = s.rule_sound r lt in
      let few = dimension_few r lt in
      sym (cond-true (ltb k (rule_dimension b r)) (leb (symbol_count b r k) 8 && leb (first_symbol b r k + symbol_count b r k) (symbols b)) (eqb (first_symbol b r k) 0 && eqb (symbol_count b r k) 0) (lt-ltb k (rule_dimension b r) kl)) ∙ p.constituents k (omega arith)

  sequence_few : (r : ℕ) → r < rules b → (k : ℕ) → k < rule_dimension b r → symbol_count b r k ≤ 8
  sequence_few r lt k kl = leb-true _ _ (and_parts (leb (symbol_count b r k) 8) (leb (first_symbol b r k + symbol_count b r k) (symbols b)) (constituent_told r lt k kl)).0

  pub symbols_inside : (r : ℕ) → r < rules b → (k : ℕ) → k < rule_dimension b r → first_symbol b r k + symbol_count b r k ≤ symbols b
  symbols_inside r lt k kl = leb-true _ _ (and_parts (leb (symbol_count b r k) 8) (leb (first_symbol b r k + symbol_count b r k) (symbols b)) (constituent_told r lt k kl)).1

  entry_lawful : (r : ℕ) → r < rules b → RuleLawful (image_meaning b) (image_function b (rule_function b r)) (rule_entry b r).forms (rule_entry b r).rule
  entry_lawful r lt =
      let p = s.rule_sound r lt in
      let f = rule_function b r in
      let q = s.function_sound f p.known in
      record {
        one_form_each = listing_length (argument_form b r) (rule_arity b r) ∙ sym (listing_length (argument b f) (arity b f));
        forms_range = listing_all (argument_form b r) (λ k. k ≤ 7) (rule_arity b r) (form_few r lt);
        form_range = p.form;
        one_sequence_each = listing_nth (dimension b) (categories b) (result b f) q.result_known ∙ ap Some (sym (listing_length (sequence b r) (rule_dimension b r)));
        sequence_range = listing_all (sequence b r) (λ symbols. length symbols ≤ 8) (rule_dimension b r) (λ k kl. let n = listing_length (λ j. symbol_of (symbol_bits b (first_symbol b r k + j))) (symbol_count b r k) in omega (arith, n, sequence_few r lt k kl));
        symbols_lawful = listing_all (sequence b r) (AllByRecursion (SymbolLawful (image_meaning b) (image_function b f))) (rule_dimension b r) (λ k kl.
            listing_all (λ j. symbol_of (symbol_bits b (first_symbol b r k + j))) (SymbolLawful (image_meaning b) (image_function b f)) (symbol_count b r k) (λ j jl.
            symbol_lawful f p.known (symbol_bits b (first_symbol b r k + j)) (s.symbol_sound r k j lt kl jl)));
      }

  rules_lawful : (f : ℕ) (forms : List ℕ) (r : Rule) → (image_meaning b).rule f forms ≡ Some r → (function : Function) × (slice_get (image_meaning b).signature.functions f ≡ Some function) × RuleLawful (image_meaning b) function forms r
  rules_lawful f forms r h =
      let e = from_entry (listing (rules b) (rule_entry b)) f forms r h in
      let i = listing_holds (rule_entry b) (rules b) e.0 e.1 in
      let at : rule_function b i.0 ≡ f = sym (ap (λ x. x.function) i.2) ∙ e.2 in
      let same_forms : (rule_entry b i.0).forms ≡ forms = sym (ap (λ x. x.forms) i.2) ∙ e.3 in
      let same_rule : (rule_entry b i.0).rule ≡ r = sym (ap (λ x. x.rule) i.2) ∙ e.4 in (
        image_function b (rule_function b i.0),
        subst (λ g. slice_get (image_meaning b).signature.functions g ≡ Some (image_function b (rule_function b i.0))) at (listing_nth (image_function b) (functions b) (rule_function b i.0) (s.rule_sound i.0 i.1).known),
        subst (λ x. RuleLawful (image_meaning b) (image_function b (rule_function b i.0)) forms x) same_rule (subst (λ ks. RuleLawful (image_meaning b) (image_function b (rule_function b i.0)) ks (rule_entry b i.0).rule) same_forms (entry_lawful i.0 i.1)),
      )

  pub lawful : Lawful (image_meaning b)
  lawful = record {
    signature_lawful = record {
      some_category = s.some_category;
      category_range = s.category_range;
      start_range = s.start_known;
      some_function = omega (arith, listing_length (image_function b) (functions b), s.some_function);
      function_range = omega (arith, listing_length (image_function b) (functions b), s.function_range);
      functions_lawful = listing_all (image_function b) (FunctionLawful (image_meaning b).signature) (functions b) function_lawful;
    };
    one_dimension_each = listing_length (dimension b) (categories b);
    dimension_range = listing_all (dimension b) (λ n. (1 ≤ n) × (n ≤ 4)) (categories b) s.dimension_range;
    word_range = omega (arith, listing_length (spelling b) (words b), s.word_range);
    spelling_range = listing_all (spelling b) (λ w. (1 ≤ length w) × (length w ≤ 24)) (words b) (λ w lt. let p = s.word_sound w lt in (omega (arith, word_long w lt, p.some), omega (arith, word_long w lt, p.short)));
    spelling_permitted = listing_all (spelling b) (AllByRecursion Permitted) (words b) (λ w lt. all_permitted_told (spelling b w) (s.word_sound w lt).permitted);
    rules_lawful = rules_lawful;
  }

pub sound_images_are_lawful : SoundImagesAreLawful
sound_images_are_lawful b e = lawful b (sound b e)
