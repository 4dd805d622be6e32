-- What a rule makes of its arguments' measures is the measure of what it says.
use Rattle.std.proofs.Common.{◌≡◌, ℕ, zero, suc, ◌≤◌, List, [], ◌∷◌, map, length, get_or, take, Some, None, Option, refl, ap, ◌∙◌, arith}
use Rattle.std.specs.List.{slice_get, flat_map}
use Rattle.std.specs.Option.{option_map}
use Rattle.std.proofs.lemmas.List.{take_all}
use Rattle.grammar.specs.declared.symbol.RuleForm.TheVariants.{Form}
use Rattle.grammar.specs.declared.symbol.Symbol.{Symbol}
use Rattle.grammar.specs.Languages.{Meaning, Rule, Words}
use Rattle.grammar.specs.Linearization.{Said, apply_rule, by_rule, said_form, symbol_words}
use Rattle.grammar.specs.Questions.{asked, form_or_lack, rule_answer, rule_at, sequence_answer, sequence_at}
use Rattle.measure.specs.declared.kinds.Size.{Size}
use Rattle.measure.specs.Sizes.{constituent_size, measure_of, size_of}
use Rattle.measure.specs.Sums.{or_no_symbols, sequence_words}

abbrev pub no_size : Size
no_size = record { words = 0; bytes = 0 }

sequence_of : (f : Symbol → Words) (seqs : List (List Symbol)) (k : ℕ) → flat_map f (or_no_symbols (slice_get seqs k)) ≡ get_or (map (flat_map f) seqs) k []
sequence_of f [] k = refl
sequence_of f (symbols ∷ seqs) zero = refl
sequence_of f (symbols ∷ seqs) (suc k) = sequence_of f seqs k

-- a list of four sizes
four_sizes : (sizes : List Size) (a b c d : Size) → length sizes ≡ 4 → get_or sizes 0 no_size ≡ a → get_or sizes 1 no_size ≡ b → get_or sizes 2 no_size ≡ c → get_or sizes 3 no_size ≡ d → sizes ≡ a ∷ b ∷ c ∷ d ∷ []
four_sizes (p ∷ q ∷ r ∷ s ∷ []) a b c d long ea eb ec ed = λ i. ea i ∷ eb i ∷ ec i ∷ ed i ∷ []
four_sizes [] a b c d long ea eb ec ed = absurd (omega arith)
four_sizes (p ∷ []) a b c d long ea eb ec ed = absurd (omega arith)
four_sizes (p ∷ q ∷ []) a b c d long ea eb ec ed = absurd (omega arith)
four_sizes (p ∷ q ∷ r ∷ []) a b c d long ea eb ec ed = absurd (omega arith)
four_sizes (p ∷ q ∷ r ∷ s ∷ t ∷ ts) a b c d long ea eb ec ed = absurd (omega arith)

-- the words that the question on a rule's sequence names are those of the constituent
pub rule_words : (m : Meaning) (f : ℕ) (forms : List ℕ) (all : List Said) (r : Rule) (k : ℕ) → asked m f forms ≡ Some (map said_form all) → m.rule f (map said_form all) ≡ Some r → sequence_words m all f forms k ≡ get_or (by_rule m all r).constituents k []
rule_words m f forms all r k key rule =
    ap (λ o. flat_map (symbol_words m all) (or_no_symbols (sequence_at (rule_at m f o) k))) key
    ∙ ap (λ o. flat_map (symbol_words m all) (or_no_symbols (sequence_at (Some o) k))) rule
    ∙ sequence_of (symbol_words m all) r.sequences k

-- what the symbols of a sequence come to, once none is left
pub whole_sequence : (m : Meaning) (all : List Said) (f : ℕ) (forms : List ℕ) (k i : ℕ) (size : Size) → size ≡ size_of (flat_map (symbol_words m all) (take i (or_no_symbols (sequence_answer m f forms k)))) → length (or_no_symbols (sequence_answer m f forms k)) ≤ i → size ≡ size_of (sequence_words m all f forms k)
whole_sequence m all f forms k i size sum long =
    sum
    ∙ ap (λ xs. size_of (flat_map (symbol_words m all) xs)) (take_all i (or_no_symbols (sequence_answer m f forms k)) long)

pub rule_measured : (m : Meaning) (f : ℕ) (forms : List ℕ) (all : List Said) (form : ℕ) (sizes : List Size) → asked m f forms ≡ Some (map said_form all) → Some (Form form) ≡ rule_answer m f forms → length sizes ≡ 4 → get_or sizes 0 no_size ≡ size_of (sequence_words m all f forms 0) → get_or sizes 1 no_size ≡ size_of (sequence_words m all f forms 1) → get_or sizes 2 no_size ≡ size_of (sequence_words m all f forms 2) → get_or sizes 3 no_size ≡ size_of (sequence_words m all f forms 3) → Some record { form = form; sizes = sizes } ≡ option_map measure_of (apply_rule m all (m.rule f (map said_form all)))
rule_measured m f forms all form sizes key told long ea eb ec ed = by (m.rule f (map said_form all)) refl
  where
    answered : (o : Option Rule) → m.rule f (map said_form all) ≡ o → Some (Form form) ≡ Some (form_or_lack o)
    answered o e = told ∙ ap (λ k. option_map form_or_lack (rule_at m f k)) key ∙ ap (λ k. Some (form_or_lack k)) e

    by : (o : Option Rule) → m.rule f (map said_form all) ≡ o → Some record { form = form; sizes = sizes } ≡ option_map measure_of (apply_rule m all o)
    by None e = let h = answered None e in let z : ◌≡◌ {A = ℕ} 0 1 = cc in absurd (omega arith)
    by (Some r) e =
        let h = answered (Some r) e in
        let same : form ≡ r.form = cc in
        let words : (k : ℕ) → size_of (sequence_words m all f forms k) ≡ constituent_size (by_rule m all r) k = λ k. ap size_of (rule_words m f forms all r k key e) in
        let four = four_sizes sizes _ _ _ _ long (ea ∙ words 0) (eb ∙ words 1) (ec ∙ words 2) (ed ∙ words 3) in
        ap Some (λ i. record { form = same i; sizes = four i })
