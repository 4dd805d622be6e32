-- What a language answers to each question, by its meaning. A question outside its range is answered with nothing.
use Rattle.std.specs.Prelude.{ℕ, zero, suc, cond, List, [], ◌∷◌, length, Some, None, Option, ◌==◌, nat_le}
use Rattle.std.specs.List.{slice_get}
use Rattle.std.specs.Option.{option_map}
use Rattle.grammar.specs.declared.signature.Arguments.{Arguments}
use Rattle.grammar.specs.declared.signature.Arguments.TheVariants.{Zero, One, Two, Three}
use Rattle.grammar.specs.declared.symbol.RuleForm.{RuleForm}
use Rattle.grammar.specs.declared.symbol.RuleForm.TheVariants.{Form, Missing}
use Rattle.grammar.specs.declared.symbol.Symbol.{Symbol}
use Rattle.grammar.specs.Languages.{Meaning, Rule}
use Rattle.grammar.specs.Signatures.{Function}

-- the element at i of a list that may be missing
abbrev pub at : {A : Type 0} → Option (List A) → ℕ → Option A
at None i = None
at (Some xs) i = slice_get xs i

abbrev pub function_result : Function → ℕ
function_result f = f.result

abbrev pub function_arguments : Function → List ℕ
function_arguments f = f.arguments

-- the categories of a function's arguments, from left to right
abbrev pub argument_list : Arguments → List ℕ
argument_list Zero = []
argument_list (One a) = a ∷ []
argument_list (Two a b) = a ∷ b ∷ []
argument_list (Three a b c) = a ∷ b ∷ c ∷ []

abbrev pub result_answer : Meaning → ℕ → Option ℕ
result_answer m f = option_map function_result (slice_get m.signature.functions f)

abbrev pub arguments_answer : Meaning → ℕ → Option (List ℕ)
arguments_answer m f = option_map function_arguments (slice_get m.signature.functions f)

abbrev pub word_length_answer : Meaning → ℕ → Option ℕ
word_length_answer m w = option_map length (slice_get m.words w)

abbrev pub word_byte_answer : Meaning → ℕ → ℕ → Option ℕ
word_byte_answer m w i = at (slice_get m.words w) i

abbrev pub with_first : ℕ → Option (List ℕ) → Option (List ℕ)
with_first k None = None
with_first k (Some ks) = Some (k ∷ ks)

-- of the forms that a question names, those of the n arguments; each is 0 to 7, and those of arguments not there are 0
abbrev pub forms_of : ℕ → List ℕ → Option (List ℕ)
forms_of zero [] = Some []
forms_of zero (k ∷ ks) = cond (k == 0) (forms_of zero ks) None
forms_of (suc n) [] = None
forms_of (suc n) (k ∷ ks) = cond (nat_le k 7) (with_first k (forms_of n ks)) None

abbrev pub key_of : Option (List ℕ) → List ℕ → Option (List ℕ)
key_of None forms = None
key_of (Some arguments) forms = forms_of (length arguments) forms

-- the forms of function f's arguments, where the question is in range
abbrev pub asked : Meaning → ℕ → List ℕ → Option (List ℕ)
asked m f forms = key_of (arguments_answer m f) forms

abbrev pub form_or_lack : Option Rule → RuleForm
form_or_lack None = Missing
form_or_lack (Some r) = Form r.form

abbrev pub rule_at : Meaning → ℕ → Option (List ℕ) → Option (Option Rule)
rule_at m f None = None
rule_at m f (Some key) = Some (m.rule f key)

-- that a rule is missing is an answer
abbrev pub rule_answer : Meaning → ℕ → List ℕ → Option RuleForm
rule_answer m f forms = option_map form_or_lack (rule_at m f (asked m f forms))

abbrev pub sequence_at : Option (Option Rule) → ℕ → Option (List Symbol)
sequence_at None k = None
sequence_at (Some None) k = None
sequence_at (Some (Some r)) k = slice_get r.sequences k

-- a rule's sequence for constituent k
abbrev pub sequence_answer : Meaning → ℕ → List ℕ → ℕ → Option (List Symbol)
sequence_answer m f forms k = sequence_at (rule_at m f (asked m f forms)) k

abbrev pub sequence_length_answer : Meaning → ℕ → List ℕ → ℕ → Option ℕ
sequence_length_answer m f forms k = option_map length (sequence_answer m f forms k)

abbrev pub symbol_answer : Meaning → ℕ → List ℕ → ℕ → ℕ → Option Symbol
symbol_answer m f forms k i = at (sequence_answer m f forms k) i
