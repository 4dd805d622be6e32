-- Languages: what one means over a signature, and the law that each keeps.
use Rattle.std.specs.Prelude.{◌≡◌, ℕ, ◌<◌, ◌≤◌, ◌⊎◌, List, length, Some, Option}
use Rattle.std.specs.List.{slice_get, AllByRecursion}
use Rattle.grammar.specs.declared.symbol.Symbol.{Symbol}
use Rattle.grammar.specs.declared.symbol.Symbol.TheVariants.{Word, Reference}
use Rattle.grammar.specs.Signatures.{Signature, Function}

-- a word is its spelling: words are equal when their bytes are
abbrev pub Spelling : Type 0
Spelling = List ℕ

-- a phrase is a string of words
abbrev pub Words : Type 0
Words = List Spelling

-- the form of the result, and a sequence of symbols for each constituent of the result category
pub record Rule : Type 0 where
  pub form : ℕ
  pub sequences : List (List Symbol)

-- a signature, each category's dimension (its number of constituents), the words by number, and the rule for a function and the forms of its arguments, where there is one
pub record Meaning : Type 0 where
  pub signature : Signature
  pub dimensions : List ℕ
  pub words : Words
  pub rule : ℕ → List ℕ → Option Rule

-- a byte that may stand in a word
abbrev pub Permitted : ℕ → Type 0
Permitted b = ((0x21 ≤ b) × (b ≤ 0x7E)) ⊎ ((0x80 ≤ b) × (b ≤ 0xFF))

-- a symbol of a rule for a function: its word is one of the language, or it names an argument that the function has and a constituent of that argument's category
abbrev pub SymbolLawful : Meaning → Function → Symbol → Type 0
SymbolLawful m f (Word n) = n < length m.words
SymbolLawful m f (Reference a k) =
    (c : ℕ) × (dimension : ℕ) × (slice_get f.arguments a ≡ Some c) × (slice_get m.dimensions c ≡ Some dimension) × (k < dimension)

-- a rule for a function, at one form for each of its arguments
pub record RuleLawful (m : Meaning) (f : Function) (forms : List ℕ) (r : Rule) : Type 0 where
  pub one_form_each : length forms ≡ length f.arguments
  pub forms_range : AllByRecursion (λ k. k ≤ 7) forms
  pub form_range : r.form ≤ 7
  pub one_sequence_each : slice_get m.dimensions f.result ≡ Some (length r.sequences)
  pub sequence_range : AllByRecursion (λ symbols. length symbols ≤ 8) r.sequences
  pub symbols_lawful : AllByRecursion (AllByRecursion (SymbolLawful m f)) r.sequences

pub record FunctionLawful (s : Signature) (f : Function) : Type 0 where
  pub result_range : f.result < s.categories
  pub arity_range : length f.arguments ≤ 3
  pub argument_range : AllByRecursion (λ c. c < s.categories) f.arguments

pub record SignatureLawful (s : Signature) : Type 0 where
  pub some_category : 1 ≤ s.categories
  pub category_range : s.categories ≤ 16
  pub start_range : s.start < s.categories
  pub some_function : 1 ≤ length s.functions
  pub function_range : length s.functions ≤ 64
  pub functions_lawful : AllByRecursion (FunctionLawful s) s.functions

-- the law of a language, with every range
pub record Lawful (m : Meaning) : Type 0 where
  pub signature_lawful : SignatureLawful m.signature
  pub one_dimension_each : length m.dimensions ≡ m.signature.categories
  pub dimension_range : AllByRecursion (λ n. (1 ≤ n) × (n ≤ 4)) m.dimensions
  pub word_range : length m.words ≤ 1024
  pub spelling_range : AllByRecursion (λ w. (1 ≤ length w) × (length w ≤ 24)) m.words
  pub spelling_permitted : AllByRecursion (AllByRecursion Permitted) m.words
  pub rules_lawful : (f : ℕ) (forms : List ℕ) (r : Rule) → m.rule f forms ≡ Some r → (function : Function) × (slice_get m.signature.functions f ≡ Some function) × RuleLawful m function forms r
