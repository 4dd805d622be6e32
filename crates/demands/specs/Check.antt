-- The rules of the format in the order in which they are checked, each with the fault of an image that breaks it first.
use Rattle.std.specs.Prelude.{ℕ, zero, suc, ◌+◌, ◌-◌, ◌/◌, ◌%◌, Bool, true, false, cond, ◌&&◌, ◌||◌, List, [], ◌∷◌, ◌++◌, length, Some, None, Option, ◌==◌, nat_le, nat_lt}
use Rattle.std.specs.List.{range_with_len, flat_map}
use Rattle.grammar.specs.PhraseWalk.{permitted}
use Rattle.flaw.specs.declared.kinds.ImageFault.{ImageFault}
use Rattle.flaw.specs.declared.kinds.ImageFault.TheVariants.{Mark, Short, Range, Total, Field, Word, Rule, Symbol}
use Rattle.view.specs.Grammar.{key}
use Rattle.view.specs.Layout.{byte, categories, functions, start, words, rules, symbols, spelled, total, dimension, function_at, result, arity, argument, word_offset, word_length, spelling, rule_function, argument_form, result_form, first_symbol, symbol_count, rule_arity, rule_dimension, symbol_bits}

-- a rule of the format: whether the bytes keep it, and the fault where they do not
pub record Demand : Type 0 where
  pub kept : Bool
  pub fault : ImageFault

abbrev pub demand : Bool → ImageFault → Demand
demand k f = record { kept = k; fault = f }

-- the fault of the first demand that is not kept
abbrev pub first_broken : List Demand → Option ImageFault
first_broken [] = None
first_broken (d ∷ ds) = cond d.kept (first_broken ds) (Some d.fault)

-- what is demanded of 0, 1 and on, below n
abbrev pub each : ℕ → (ℕ → List Demand) → List Demand
each n demands = flat_map demands (range_with_len 0 n)

-- p holds of each number below n
abbrev pub every : ℕ → (ℕ → Bool) → Bool
every zero p = true
every (suc n) p = every n p && p n

abbrev pub within : ℕ → ℕ → ℕ → Bool
within low high n = nat_le low n && nat_le n high

-- byte i is there and has this value
abbrev pub marked : List ℕ → ℕ → ℕ → List Demand
marked b i value = demand (nat_lt i (length b) && byte b i == value) (Mark i) ∷ []

-- "CNC", version 1
abbrev pub mark_demands : List ℕ → List Demand
mark_demands b = marked b 0 0x43 ++ marked b 1 0x4E ++ marked b 2 0x43 ++ marked b 3 1 ++ marked b 4 0

abbrev pub head_demands : List ℕ → List Demand
head_demands b =
    demand (nat_le 16 (length b)) (Short (length b))
    ∷ demand (within 1 16 (categories b)) (Range 5)
    ∷ demand (within 1 64 (functions b)) (Range 6)
    ∷ demand (nat_lt (start b) (categories b)) (Range 7)
    ∷ demand (nat_le (words b) 1024) (Range 8)
    ∷ demand (nat_le (rules b) 512) (Range 10)
    ∷ demand (nat_le (symbols b) 4096) (Range 12)
    ∷ demand (nat_le (spelled b) 16384) (Range 14)
    ∷ demand (total b == length b) Total
    ∷ []

abbrev pub dimension_demands : List ℕ → ℕ → List Demand
dimension_demands b c = demand (within 1 4 (dimension b c)) (Field (16 + c)) ∷ []

-- an argument that is there has a category, one that is not there is 0
abbrev pub argument_demand : List ℕ → ℕ → ℕ → Demand
argument_demand b f a =
    demand (cond (nat_lt a (arity b f)) (nat_lt (argument b f a) (categories b)) (argument b f a == 0)) (Field (function_at b f + 2 + a))

abbrev pub function_demands : List ℕ → ℕ → List Demand
function_demands b f =
    demand (nat_lt (result b f) (categories b)) (Field (function_at b f))
    ∷ demand (nat_le (arity b f) 3) (Field (function_at b f + 1))
    ∷ argument_demand b f 0
    ∷ argument_demand b f 1
    ∷ argument_demand b f 2
    ∷ []

abbrev pub all_permitted : List ℕ → Bool
all_permitted [] = true
all_permitted (c ∷ cs) = permitted c && all_permitted cs

-- 1 to 24 bytes within the spelled ones, each permitted
abbrev pub word_sound : List ℕ → ℕ → Bool
word_sound b w =
    within 1 24 (word_length b w) && (nat_le (word_offset b w + word_length b w) (spelled b) && all_permitted (spelling b w))

abbrev pub word_demands : List ℕ → ℕ → List Demand
word_demands b w = demand (word_sound b w) (Word w) ∷ []

-- the form of an argument that is there is 0 to 7, of one that is not there 0
abbrev pub form_sound : List ℕ → ℕ → ℕ → Bool
form_sound b r a = cond (nat_lt a (rule_arity b r)) (nat_le (argument_form b r a) 7) (argument_form b r a == 0)

-- a constituent that the result has: at most 8 symbols within the section; one that it has not: 0, 0
abbrev pub constituent_sound : List ℕ → ℕ → ℕ → Bool
constituent_sound b r k =
    cond (nat_lt k (rule_dimension b r))
    (nat_le (symbol_count b r k) 8 && nat_le (first_symbol b r k + symbol_count b r k) (symbols b))
    (first_symbol b r k == 0 && symbol_count b r k == 0)

-- at the first difference the first list has the lower number
abbrev pub rises : List ℕ → List ℕ → Bool
rises [] ys = false
rises (x ∷ xs) [] = false
rises (x ∷ xs) (y ∷ ys) = nat_lt x y || (x == y && rises xs ys)

-- the key of a rule comes after that of the rule before it
abbrev pub key_rises : List ℕ → ℕ → Bool
key_rises b zero = true
key_rises b (suc r) = rises (key b r) (key b (suc r))

abbrev pub rule_sound : List ℕ → ℕ → Bool
rule_sound b r =
    nat_lt (rule_function b r) (functions b) && (every 3 (form_sound b r) && (nat_le (result_form b r) 7 && (every 4 (constituent_sound b r) && key_rises b r)))

abbrev pub rule_demands : List ℕ → ℕ → List Demand
rule_demands b r = demand (rule_sound b r) (Rule r) ∷ []

-- a symbol of a rule for function f: a word of the image, or an argument that the function has and a constituent of its category
abbrev pub symbol_sound : List ℕ → ℕ → ℕ → Bool
symbol_sound b f bits =
    cond (nat_lt bits 0x8000) (nat_lt bits (words b))
    (nat_lt ((bits - 0x8000) / 4) (arity b f) && nat_lt ((bits - 0x8000) % 4) (dimension b (argument b f ((bits - 0x8000) / 4))))

abbrev pub symbol_demands : List ℕ → ℕ → ℕ → ℕ → List Demand
symbol_demands b r k j =
    demand (symbol_sound b (rule_function b r) (symbol_bits b (first_symbol b r k + j))) (Symbol (first_symbol b r k + j)) ∷ []

-- the symbols in use: rule by rule, constituent by constituent
abbrev pub use_demands : List ℕ → ℕ → List Demand
use_demands b r = each (rule_dimension b r) (λ k. each (symbol_count b r k) (symbol_demands b r k))

-- all that is demanded, in order
abbrev pub demands : List ℕ → List Demand
demands b =
    mark_demands b ++ (head_demands b ++ (each (categories b) (dimension_demands b) ++ (each (functions b) (function_demands b) ++ (each (words b) (word_demands b) ++ (each (rules b) (rule_demands b) ++ each (rules b) (use_demands b))))))

-- the image's fault, or none where it is sound
abbrev pub image_check : List ℕ → Option ImageFault
image_check b = first_broken (demands b)
