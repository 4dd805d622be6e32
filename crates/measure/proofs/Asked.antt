-- The question on a node's rule: its forms, padded to three, are the forms of its arguments, and its symbols keep the law.
use Rattle.std.proofs.Common.{◌≡◌, ℕ, ◌≤◌, leb, List, [], ◌∷◌, map, length, Some, None, Option, unwrap_or, sym, refl, ap, ◌∙◌, subst, arith}
use Rattle.std.specs.List.{slice_get, AllByRecursion}
use Rattle.std.specs.Option.{option_map}
use Rattle.std.proofs.lemmas.List.{length-map}
use Rattle.std.proofs.lemmas.Bool.{cond-true, le-leb}
use Rattle.grammar.proofs.Nth.{all_nth, nth_below}
use Rattle.grammar.proofs.Optional.{none_some}
use Rattle.grammar.specs.declared.symbol.Symbol.{Symbol}
use Rattle.grammar.specs.declared.symbol.Symbol.TheVariants.{Word, Reference}
use Rattle.grammar.specs.Languages.{FunctionLawful, Lawful, Meaning, Rule, SymbolLawful}
use Rattle.grammar.specs.Linearization.{Said, linearized, linearized_all, said_form}
use Rattle.grammar.specs.Questions.{asked, at, key_of, function_arguments, forms_of, with_first, rule_at, sequence_at, sequence_answer, symbol_answer}
use Rattle.grammar.specs.Signatures.{Function, Signature}
use Rattle.grammar.specs.Trees.{Tree, Trees, HaveCategories}
use Rattle.grammar.specs.Trees.Tree.{node}
use Rattle.grammar.specs.Trees.Trees.{none, more}
use Rattle.saying.proofs.Muteness.{node_parts, more_parts}
use Rattle.measure.specs.Sizes.{padded}
use Rattle.measure.specs.Sums.{InRange, or_no_symbols}

abbrev Small : List ℕ → Type 0
Small ks = AllByRecursion (λ k. k ≤ 7) ks

-- three forms of which the first are those of the arguments, the others 0
padded_forms : (ks : List ℕ) → length ks ≤ 3 → Small ks → forms_of (length ks) (padded ks) ≡ Some ks
padded_forms [] few small = refl
padded_forms (a ∷ []) few small = cond-true (leb a 7) _ _ (le-leb a 7 small.0)
padded_forms (a ∷ b ∷ []) few small =
    cond-true (leb a 7) _ _ (le-leb a 7 small.0) ∙ ap (with_first a) (cond-true (leb b 7) _ _ (le-leb b 7 small.1.0))
padded_forms (a ∷ b ∷ c ∷ []) few small =
    cond-true (leb a 7) _ _ (le-leb a 7 small.0)
    ∙ ap (with_first a) (cond-true (leb b 7) _ _ (le-leb b 7 small.1.0) ∙ ap (with_first b) (cond-true (leb c 7) _ _ (le-leb c 7 small.1.1.0)))
padded_forms (a ∷ b ∷ c ∷ d ∷ ks) few small = absurd (omega arith)

-- the question with padded forms asks for the arguments' forms
pub asked_padded : (m : Meaning) (f : ℕ) (function : Function) (ks : List ℕ) → slice_get m.signature.functions f ≡ Some function → length ks ≡ length function.arguments → length function.arguments ≤ 3 → Small ks → asked m f (padded ks) ≡ Some ks
asked_padded m f function ks known long few small =
    ap (λ o. key_of (option_map function_arguments o) (padded ks)) known
    ∙ ap (λ n. forms_of n (padded ks)) (sym long)
    ∙ padded_forms ks (omega arith) small

-- a sequence that is answered is one of a rule
pub answered_sequence : (m : Meaning) (f : ℕ) (forms : List ℕ) (k : ℕ) (symbols : List Symbol) → sequence_answer m f forms k ≡ Some symbols → (key : List ℕ) × (r : Rule) × (m.rule f key ≡ Some r) × (slice_get r.sequences k ≡ Some symbols)
answered_sequence m f forms k symbols h = by (asked m f forms) h
  where
    of_rule : (key : List ℕ) (o : Option Rule) → m.rule f key ≡ o → sequence_at (Some o) k ≡ Some symbols → (key : List ℕ) × (r : Rule) × (m.rule f key ≡ Some r) × (slice_get r.sequences k ≡ Some symbols)
    of_rule key None e g = absurd (none_some symbols g)
    of_rule key (Some r) e g = (key, r, e, g)

    by : (o : Option (List ℕ)) → sequence_at (rule_at m f o) k ≡ Some symbols → (key : List ℕ) × (r : Rule) × (m.rule f key ≡ Some r) × (slice_get r.sequences k ≡ Some symbols)
    by None g = absurd (none_some symbols g)
    by (Some key) g = of_rule key (m.rule f key) refl g

pub answered_at : (o : Option (List Symbol)) (i : ℕ) (x : Symbol) → at o i ≡ Some x → (symbols : List Symbol) × (o ≡ Some symbols) × (slice_get symbols i ≡ Some x)
answered_at None i x h = absurd (none_some x h)
answered_at (Some symbols) i x h = (symbols, refl, h)

-- a symbol that is answered keeps the law
pub answered_lawful : (m : Meaning) → Lawful m → (f : ℕ) (function : Function) → slice_get m.signature.functions f ≡ Some function → (forms : List ℕ) (k i : ℕ) (x : Symbol) → symbol_answer m f forms k i ≡ Some x → SymbolLawful m function x
answered_lawful m law f function known forms k i x h =
    let there = answered_at (sequence_answer m f forms k) i x h in
    let of = answered_sequence m f forms k there.0 there.1 in
    let rule = law.rules_lawful f of.0 of.1 of.2 in
    let same : rule.0 ≡ function = cc (rule.1, known) in
    let lawful = all_nth (SymbolLawful m rule.0) there.0 i x (all_nth (AllByRecursion (SymbolLawful m rule.0)) of.1.sequences k there.0 rule.2.symbols_lawful of.3) there.2 in
    subst (λ g. SymbolLawful m g x) same lawful

in_range : (m : Meaning) → Lawful m → (function : Function) → length function.arguments ≤ 3 → (x : Symbol) → SymbolLawful m function x → InRange x
in_range m law function few (Word n) lawful = tt
in_range m law function few (Reference a k) lawful =
    let dimension = all_nth (λ n. (1 ≤ n) × (n ≤ 4)) m.dimensions lawful.0 lawful.1 law.dimension_range lawful.3 in
    (omega (arith, nth_below function.arguments a lawful.0 lawful.2), omega (arith, dimension.1, lawful.4))

-- and a sequence has at most 8 symbols
pub answered_short : (m : Meaning) → Lawful m → (f : ℕ) (forms : List ℕ) (k : ℕ) (symbols : List Symbol) → sequence_answer m f forms k ≡ Some symbols → length symbols ≤ 8
answered_short m law f forms k symbols h =
    let of = answered_sequence m f forms k symbols h in
    let rule = law.rules_lawful f of.0 of.1 of.2 in
    all_nth (λ xs. length xs ≤ 8) of.1.sequences k symbols rule.2.sequence_range of.3

-- what is said of trees has forms 0 to 7, one for each argument
mutual
  pub said_form_range : (m : Meaning) → Lawful m → (t : Tree) (s : Said) → linearized m t ≡ Some s → s.form ≤ 7
  said_form_range m law (node f ts) s e =
      let parts = node_parts m f ts s e in
      let rule = law.rules_lawful f (map said_form parts.0) parts.1 parts.3 in
      subst (λ k. k ≤ 7) (sym (ap said_form parts.4)) rule.2.form_range

  pub said_forms_range : (m : Meaning) → Lawful m → (ts : Trees) (all : List Said) → linearized_all m ts ≡ Some all → AllByRecursion (λ k. k ≤ 7) (map said_form all)
  said_forms_range m law none all e = let same : [] ≡ all = cc in subst (λ xs. AllByRecursion (λ k. k ≤ 7) (map said_form xs)) same tt
  said_forms_range m law (more t ts) all e =
      let parts = more_parts m t ts all e in
      subst (λ xs. AllByRecursion (λ k. k ≤ 7) (map said_form xs)) (sym parts.4) (said_form_range m law t parts.0 parts.2, said_forms_range m law ts parts.1 parts.3)

pub said_count : (m : Meaning) (s : Signature) (cs : List ℕ) (ts : Trees) (all : List Said) → HaveCategories s cs ts → linearized_all m ts ≡ Some all → length all ≡ length cs
said_count m s cs none all h e = let same : [] ≡ all = cc in omega (arith, ap length (sym same), ap length h)
said_count m s cs (more t ts) all h e =
    let parts = more_parts m t ts all e in
    omega (arith, ap length parts.4, ap length h.2, said_count m s h.1 ts parts.1 h.4 parts.3)

-- the question on the rule of a node whose arguments are said
pub node_asked : (m : Meaning) → Lawful m → (f : ℕ) (ts : Trees) (function : Function) (all : List Said) → slice_get m.signature.functions f ≡ Some function → HaveCategories m.signature function.arguments ts → linearized_all m ts ≡ Some all → asked m f (padded (map said_form all)) ≡ Some (map said_form all)
node_asked m law f ts function all known have e =
    let few = (all_nth (FunctionLawful m.signature) m.signature.functions f function law.signature_lawful.functions_lawful known).arity_range in
    let long = length-map all said_form ∙ said_count m m.signature function.arguments ts all have e in
    asked_padded m f function (map said_form all) known long few (said_forms_range m law ts all e)

-- a reference that is answered names one of three arguments and one of four constituents
pub answered_in_range : (m : Meaning) → Lawful m → (f : ℕ) (forms : List ℕ) (k i : ℕ) (x : Symbol) → symbol_answer m f forms k i ≡ Some x → InRange x
answered_in_range m law f forms k i x h =
    let there = answered_at (sequence_answer m f forms k) i x h in
    let of = answered_sequence m f forms k there.0 there.1 in
    let rule = law.rules_lawful f of.0 of.1 of.2 in
    let few = (all_nth (FunctionLawful m.signature) m.signature.functions f rule.0 law.signature_lawful.functions_lawful rule.1).arity_range in
    in_range m law rule.0 few x (answered_lawful m law f rule.0 rule.1 forms k i x h)

-- the symbols of a question, and how many they are
pub symbol_there : (o : Option (List Symbol)) (i : ℕ) → at o i ≡ slice_get (or_no_symbols o) i
symbol_there None i = refl
symbol_there (Some symbols) i = refl

pub symbol_told : (o : Option (List Symbol)) (i : ℕ) (x : Option Symbol) → x ≡ at o i → slice_get (or_no_symbols o) i ≡ x
symbol_told o i x told = sym (told ∙ symbol_there o i)

pub symbol_count : (o : Option (List Symbol)) (n : ℕ) → option_map length o ≡ Some n → n ≡ length (or_no_symbols o)
symbol_count None n h = absurd (none_some n h)
symbol_count (Some symbols) n h = cc

pub symbols_counted : (o : Option (List Symbol)) (count : Option ℕ) (n : ℕ) → count ≡ option_map length o → n ≡ unwrap_or count 0 → n ≡ length (or_no_symbols o)
symbols_counted None count n told is = is ∙ ap (λ c. unwrap_or c 0) told
symbols_counted (Some symbols) count n told is = is ∙ ap (λ c. unwrap_or c 0) told
