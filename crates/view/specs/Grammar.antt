-- The grammar that an image's bytes state, field by field.
use Rattle.std.specs.Prelude.{ℕ, ◌+◌, ◌-◌, ◌/◌, ◌%◌, cond, List, map, nat_lt}
use Rattle.std.specs.List.{range_with_len}
use Rattle.grammar.specs.declared.symbol.Symbol.{Symbol}
use Rattle.grammar.specs.declared.symbol.Symbol.TheVariants.{Word, Reference}
use Rattle.grammar.specs.Languages.{Meaning}
use Rattle.grammar.specs.RuleTables.{Entry, from_table}
use Rattle.grammar.specs.Signatures.{Function, Signature}
use Rattle.view.specs.Layout.{byte, categories, functions, start, words, rules, dimension, result, arity, argument, spelling, rule_at, rule_function, argument_form, result_form, first_symbol, symbol_count, rule_arity, rule_dimension, symbol_bits}

-- what f says of 0, 1 and on, below n
abbrev pub listing : {A : Type 0} → ℕ → (ℕ → A) → List A
listing n f = map f (range_with_len 0 n)

abbrev pub image_function : List ℕ → ℕ → Function
image_function b f = record { result = result b f; arguments = listing (arity b f) (argument b f) }

-- below 0x8000 a word's number; 0x8000 + 4 × argument + constituent a reference
abbrev pub symbol_of : ℕ → Symbol
symbol_of n = cond (nat_lt n 0x8000) (Word n) (Reference ((n - 0x8000) / 4) ((n - 0x8000) % 4))

-- the symbols of rule r for constituent k
abbrev pub sequence : List ℕ → ℕ → ℕ → List Symbol
sequence b r k = listing (symbol_count b r k) (λ j. symbol_of (symbol_bits b (first_symbol b r k + j)))

-- a rule's key: its function and three forms
abbrev pub key : List ℕ → ℕ → List ℕ
key b r = listing 4 (λ i. byte b (rule_at b r + i))

abbrev pub rule_entry : List ℕ → ℕ → Entry
rule_entry b r = record {
  function = rule_function b r;
  forms = listing (rule_arity b r) (argument_form b r);
  rule = record { form = result_form b r; sequences = listing (rule_dimension b r) (sequence b r) };
}

abbrev pub image_signature : List ℕ → Signature
image_signature b = record { categories = categories b; start = start b; functions = listing (functions b) (image_function b) }

abbrev pub image_meaning : List ℕ → Meaning
image_meaning b = record {
  signature = image_signature b;
  dimensions = listing (categories b) (dimension b);
  words = listing (words b) (spelling b);
  rule = from_table (listing (rules b) (rule_entry b));
}
