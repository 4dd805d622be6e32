-- What is known of an image's bytes once the check has found them sound.
use Rattle.std.proofs.Common.{◌≡◌, ℕ, zero, suc, ◌+◌, ◌<◌, ◌≤◌, true, cond, eqb, ltb, List, ◌++◌, length, None, arith}
use Rattle.std.proofs.lemmas.Bool.{leb-true, ltb-true, eqb-true, and_parts}
use Rattle.demands.specs.Check.{first_broken, each, image_check, mark_demands, head_demands, dimension_demands, function_demands, argument_demand, word_demands, rule_demands, use_demands, symbol_demands, form_sound, constituent_sound, symbol_sound, key_rises, all_permitted}
use Rattle.view.specs.Layout.{categories, functions, start, words, rules, symbols, spelled, total, dimension, result, arity, argument, word_offset, word_length, spelling, rule_function, result_form, first_symbol, symbol_count, rule_dimension, symbol_bits}
use Rattle.soundness.proofs.Demands.{all_kept, kept_parts, kept_each, every_true, within_true}

pub record SoundWord (b : List ℕ) (w : ℕ) : Type 0 where
  pub some : 1 ≤ word_length b w
  pub short : word_length b w ≤ 24
  pub inside : word_offset b w + word_length b w ≤ spelled b
  pub permitted : all_permitted (spelling b w) ≡ true

pub record SoundRule (b : List ℕ) (r : ℕ) : Type 0 where
  pub known : rule_function b r < functions b
  pub forms : (a : ℕ) → a < 3 → form_sound b r a ≡ true
  pub form : result_form b r ≤ 7
  pub constituents : (k : ℕ) → k < 4 → constituent_sound b r k ≡ true
  pub rising : key_rises b r ≡ true

pub record SoundFunction (b : List ℕ) (f : ℕ) : Type 0 where
  pub result_known : result b f < categories b
  pub arity_range : arity b f ≤ 3
  pub argument_known : (a : ℕ) → a < 3 → cond (ltb a (arity b f)) (ltb (argument b f a) (categories b)) (eqb (argument b f a) 0) ≡ true

pub record Sound (b : List ℕ) : Type 0 where
  pub head : 16 ≤ length b
  pub some_category : 1 ≤ categories b
  pub category_range : categories b ≤ 16
  pub some_function : 1 ≤ functions b
  pub function_range : functions b ≤ 64
  pub start_known : start b < categories b
  pub word_range : words b ≤ 1024
  pub rule_range : rules b ≤ 512
  pub symbol_range : symbols b ≤ 4096
  pub spelled_range : spelled b ≤ 16384
  pub whole : total b ≡ length b
  pub dimension_range : (c : ℕ) → c < categories b → (1 ≤ dimension b c) × (dimension b c ≤ 4)
  pub function_sound : (f : ℕ) → f < functions b → SoundFunction b f
  pub word_sound : (w : ℕ) → w < words b → SoundWord b w
  pub rule_sound : (r : ℕ) → r < rules b → SoundRule b r
  pub symbol_sound : (r k j : ℕ) → r < rules b → k < rule_dimension b r → j < symbol_count b r k → symbol_sound b (rule_function b r) (symbol_bits b (first_symbol b r k + j)) ≡ true

sound_function : (b : List ℕ) (f : ℕ) → first_broken (function_demands b f) ≡ None → SoundFunction b f
sound_function b f e =
    let p = all_kept (function_demands b f) e in
    record { result_known = ltb-true _ _ p.0; arity_range = leb-true _ _ p.1.0; argument_known = arguments p.1.1.0 p.1.1.1.0 p.1.1.1.1.0 }
  where
    arguments : (argument_demand b f 0).kept ≡ true → (argument_demand b f 1).kept ≡ true → (argument_demand b f 2).kept ≡ true → (a : ℕ) → a < 3 → (argument_demand b f a).kept ≡ true
    arguments x y z zero lt = x
    arguments x y z (suc zero) lt = y
    arguments x y z (suc (suc zero)) lt = z
    arguments x y z (suc (suc (suc a))) lt = absurd (omega arith)

sound_word : (b : List ℕ) (w : ℕ) → first_broken (word_demands b w) ≡ None → SoundWord b w
sound_word b w e =
    let p = and_parts _ _ (all_kept (word_demands b w) e).0 in
    let q = and_parts _ _ p.1 in
    let size = within_true 1 24 (word_length b w) p.0 in
    record { some = size.0; short = size.1; inside = leb-true _ _ q.0; permitted = q.1 }

sound_rule : (b : List ℕ) (r : ℕ) → first_broken (rule_demands b r) ≡ None → SoundRule b r
sound_rule b r e =
    let p = and_parts _ _ (all_kept (rule_demands b r) e).0 in
    let q = and_parts _ _ p.1 in
    let s = and_parts _ _ q.1 in
    let t = and_parts _ _ s.1 in
    record {
      known = ltb-true _ _ p.0;
      forms = every_true 3 (form_sound b r) q.0;
      form = leb-true _ _ s.0;
      constituents = every_true 4 (constituent_sound b r) t.0;
      rising = t.1;
    }

sound_symbol : (b : List ℕ) (r k j : ℕ) → first_broken (use_demands b r) ≡ None → k < rule_dimension b r → j < symbol_count b r k → symbol_sound b (rule_function b r) (symbol_bits b (first_symbol b r k + j)) ≡ true
sound_symbol b r k j e kl jl =
    let used = kept_each (rule_dimension b r) (λ i. each (symbol_count b r i) (symbol_demands b r i)) e k kl in
    (all_kept (symbol_demands b r k j) (kept_each (symbol_count b r k) (symbol_demands b r k) used j jl)).0

-- none of the demands of any section is broken
record Sections (b : List ℕ) : Type 0 where
  head : first_broken (head_demands b) ≡ None
  dimensions : first_broken (each (categories b) (dimension_demands b)) ≡ None
  functions_kept : first_broken (each (functions b) (function_demands b)) ≡ None
  words_kept : first_broken (each (words b) (word_demands b)) ≡ None
  rules_kept : first_broken (each (rules b) (rule_demands b)) ≡ None
  uses : first_broken (each (rules b) (use_demands b)) ≡ None

sections : (b : List ℕ) → image_check b ≡ None → Sections b
sections b e =
    let uses = each (rules b) (use_demands b) in
    let from_rules = each (rules b) (rule_demands b) ++ uses in
    let from_words = each (words b) (word_demands b) ++ from_rules in
    let from_functions = each (functions b) (function_demands b) ++ from_words in
    let from_dimensions = each (categories b) (dimension_demands b) ++ from_functions in
    let past_mark = (kept_parts (mark_demands b) (head_demands b ++ from_dimensions) e).1 in
    let headed = kept_parts (head_demands b) from_dimensions past_mark in
    let dimensioned = kept_parts (each (categories b) (dimension_demands b)) from_functions headed.1 in
    let functioned = kept_parts (each (functions b) (function_demands b)) from_words dimensioned.1 in
    let worded = kept_parts (each (words b) (word_demands b)) from_rules functioned.1 in
    let ruled = kept_parts (each (rules b) (rule_demands b)) uses worded.1 in
    record { head = headed.0; dimensions = dimensioned.0; functions_kept = functioned.0; words_kept = worded.0; rules_kept = ruled.0; uses = ruled.1 }

pub sound : (b : List ℕ) → image_check b ≡ None → Sound b
sound b e =
    let s = sections b e in
    let h = all_kept (head_demands b) s.head in
    let some_categories = within_true 1 16 (categories b) h.1.0 in
    let some_functions = within_true 1 64 (functions b) h.1.1.0 in
    record {
      head = leb-true _ _ h.0;
      some_category = some_categories.0;
      category_range = some_categories.1;
      some_function = some_functions.0;
      function_range = some_functions.1;
      start_known = ltb-true _ _ h.1.1.1.0;
      word_range = leb-true _ _ h.1.1.1.1.0;
      rule_range = leb-true _ _ h.1.1.1.1.1.0;
      symbol_range = leb-true _ _ h.1.1.1.1.1.1.0;
      spelled_range = leb-true _ _ h.1.1.1.1.1.1.1.0;
      whole = eqb-true _ _ h.1.1.1.1.1.1.1.1.0;
      dimension_range = λ c lt. within_true 1 4 (dimension b c) (all_kept (dimension_demands b c) (kept_each (categories b) (dimension_demands b) s.dimensions c lt)).0;
      function_sound = λ f lt. sound_function b f (kept_each (functions b) (function_demands b) s.functions_kept f lt);
      word_sound = λ w lt. sound_word b w (kept_each (words b) (word_demands b) s.words_kept w lt);
      rule_sound = λ r lt. sound_rule b r (kept_each (rules b) (rule_demands b) s.rules_kept r lt);
      symbol_sound = λ r k j rl kl jl. sound_symbol b r k j (kept_each (rules b) (use_demands b) s.uses r rl) kl jl;
    }
