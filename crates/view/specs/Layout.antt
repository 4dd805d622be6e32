-- The layout of an image: where each field stands, and the number that it holds. All numbers are little-endian.
use Rattle.std.specs.Prelude.{ℕ, ◌+◌, ◌*◌, List, take, drop, slice_index}

abbrev pub byte : List ℕ → ℕ → ℕ
byte b i = slice_index b i

-- 16 bits from place i on
abbrev pub pair : List ℕ → ℕ → ℕ
pair b i = byte b i + 256 * byte b (i + 1)

-- the head: how many categories, functions, words, rules, symbols and spelled bytes there are, and the start category
abbrev pub categories : List ℕ → ℕ
categories b = byte b 5

abbrev pub functions : List ℕ → ℕ
functions b = byte b 6

abbrev pub start : List ℕ → ℕ
start b = byte b 7

abbrev pub words : List ℕ → ℕ
words b = pair b 8

abbrev pub rules : List ℕ → ℕ
rules b = pair b 10

abbrev pub symbols : List ℕ → ℕ
symbols b = pair b 12

abbrev pub spelled : List ℕ → ℕ
spelled b = pair b 14

-- where the sections begin, one after the other, and where the last one ends
abbrev pub functions_from : List ℕ → ℕ
functions_from b = 16 + categories b

abbrev pub words_from : List ℕ → ℕ
words_from b = functions_from b + 5 * functions b

abbrev pub rules_from : List ℕ → ℕ
rules_from b = words_from b + 3 * words b

abbrev pub symbols_from : List ℕ → ℕ
symbols_from b = rules_from b + 17 * rules b

abbrev pub spelled_from : List ℕ → ℕ
spelled_from b = symbols_from b + 2 * symbols b

abbrev pub total : List ℕ → ℕ
total b = spelled_from b + spelled b

-- a category's dimension
abbrev pub dimension : List ℕ → ℕ → ℕ
dimension b c = byte b (16 + c)

-- a function's five bytes: result, arity, three argument categories
abbrev pub function_at : List ℕ → ℕ → ℕ
function_at b f = functions_from b + 5 * f

abbrev pub result : List ℕ → ℕ → ℕ
result b f = byte b (function_at b f)

abbrev pub arity : List ℕ → ℕ → ℕ
arity b f = byte b (function_at b f + 1)

abbrev pub argument : List ℕ → ℕ → ℕ → ℕ
argument b f a = byte b (function_at b f + 2 + a)

-- a word's three bytes: offset into the spelled bytes, length
abbrev pub word_at : List ℕ → ℕ → ℕ
word_at b w = words_from b + 3 * w

abbrev pub word_offset : List ℕ → ℕ → ℕ
word_offset b w = pair b (word_at b w)

abbrev pub word_length : List ℕ → ℕ → ℕ
word_length b w = byte b (word_at b w + 2)

abbrev pub spelling : List ℕ → ℕ → List ℕ
spelling b w = take (word_length b w) (drop (spelled_from b + word_offset b w) b)

-- a rule's 17 bytes: function, three argument forms, result form, then for four constituents the first symbol and the count
abbrev pub rule_at : List ℕ → ℕ → ℕ
rule_at b r = rules_from b + 17 * r

abbrev pub rule_function : List ℕ → ℕ → ℕ
rule_function b r = byte b (rule_at b r)

abbrev pub argument_form : List ℕ → ℕ → ℕ → ℕ
argument_form b r a = byte b (rule_at b r + 1 + a)

abbrev pub result_form : List ℕ → ℕ → ℕ
result_form b r = byte b (rule_at b r + 4)

abbrev pub first_symbol : List ℕ → ℕ → ℕ → ℕ
first_symbol b r k = pair b (rule_at b r + 5 + 3 * k)

abbrev pub symbol_count : List ℕ → ℕ → ℕ → ℕ
symbol_count b r k = byte b (rule_at b r + 7 + 3 * k)

-- the arity of a rule's function, and how many constituents its result has
abbrev pub rule_arity : List ℕ → ℕ → ℕ
rule_arity b r = arity b (rule_function b r)

abbrev pub rule_dimension : List ℕ → ℕ → ℕ
rule_dimension b r = dimension b (result b (rule_function b r))

-- a symbol's 16 bits
abbrev pub symbol_bits : List ℕ → ℕ → ℕ
symbol_bits b n = pair b (symbols_from b + 2 * n)
