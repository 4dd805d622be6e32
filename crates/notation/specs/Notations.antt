-- The notation of a signature: the language that writes each tree as it is built, as f3 ( f0 ( f2 ) ).
use Rattle.std.specs.Prelude.{ℕ, suc, ◌+◌, Bool, true, false, cond, ◌&&◌, List, [], ◌∷◌, ◌++◌, map, length, replicate, Some, None, decimal, Option, ◌==◌}
use Rattle.std.specs.List.{slice_get, range_with_len}
use Rattle.grammar.specs.declared.symbol.Symbol.{Symbol}
use Rattle.grammar.specs.declared.symbol.Symbol.TheVariants.{Word, Reference}
use Rattle.grammar.specs.Languages.{Meaning, Rule, Spelling, Words}
use Rattle.grammar.specs.Signatures.{Function, Signature}
use Rattle.grammar.specs.Tables.{signature_of}
use Rattle.notation.specs.declared.Notation.{Notation}

-- the word of function f: an f, and the number in decimal
abbrev pub function_word : ℕ → Spelling
function_word f = 0x66 ∷ decimal f

-- the words ( and ) and ,
abbrev pub marks : Words
marks = (0x28 ∷ []) ∷ (0x29 ∷ []) ∷ (0x2C ∷ []) ∷ []

-- one word for each of `count` functions, and then the marks
abbrev pub notation_words : ℕ → Words
notation_words count = map function_word (range_with_len 0 count) ++ marks

-- the arguments from number a on, a comma before each
abbrev pub further : ℕ → ℕ → List ℕ → List Symbol
further count a [] = []
further count a (c ∷ cs) = Word (count + 2) ∷ Reference a 0 ∷ further count (suc a) cs

-- function f with its arguments, of which the categories are given: f alone, or f ( first , second )
abbrev pub written : ℕ → ℕ → List ℕ → List Symbol
written count f [] = Word f ∷ []
written count f (c ∷ cs) = Word f ∷ Word count ∷ Reference 0 0 ∷ (further count 1 cs ++ Word (count + 1) ∷ [])

-- one form for each argument, and each of them 0
abbrev pub zero_each : List ℕ → List ℕ → Bool
zero_each [] [] = true
zero_each [] (k ∷ ks) = false
zero_each (c ∷ cs) [] = false
zero_each (c ∷ cs) (k ∷ ks) = k == 0 && zero_each cs ks

-- the forms that a question names are all 0
abbrev pub all_zero : List ℕ → Bool
all_zero [] = true
all_zero (k ∷ ks) = k == 0 && all_zero ks

-- the one rule of function f
abbrev pub written_rule : ℕ → ℕ → List ℕ → Rule
written_rule count f arguments = record { form = 0; sequences = written count f arguments ∷ [] }

-- each function of the signature has one rule, at forms that are all 0
abbrev pub rule_of : ℕ → ℕ → List ℕ → Option Function → Option Rule
rule_of count f forms None = None
rule_of count f forms (Some function) = cond (zero_each function.arguments forms) (Some (written_rule count f function.arguments)) None

-- each category has one constituent
abbrev pub notation : Signature → Meaning
notation s = record {
  signature = s;
  dimensions = replicate s.categories 1;
  words = notation_words (length s.functions);
  rule = λ f forms. rule_of (length s.functions) f forms (slice_get s.functions f);
}

-- the signature of a notation as a value
abbrev pub signature_in : Notation → Signature
signature_in n = signature_of n.signature
