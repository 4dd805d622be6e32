-- What a change of the words alone, or of the rules alone, keeps of a language's law and answers.
use Rattle.std.specs.Prelude.{◌≡◌, ℕ, List, length}
use Rattle.std.proofs.Common.{sym, ap, ◌∙◌}
use Rattle.std.specs.List.{slice_get, AllByRecursion}
use Rattle.std.proofs.ByRecursion.{All-weaker}
use Rattle.grammar.specs.declared.symbol.Symbol.{Symbol}
use Rattle.grammar.specs.declared.symbol.Symbol.TheVariants.{Word, Reference}
use Rattle.grammar.specs.Languages.{Meaning, Rule, SymbolLawful, RuleLawful}
use Rattle.grammar.specs.Signatures.{Function}

-- with as many words and the same dimensions, the same symbols are lawful
symbol_kept : (m n : Meaning) (f : Function) → length m.words ≡ length n.words → m.dimensions ≡ n.dimensions → (x : Symbol) → SymbolLawful m f x → SymbolLawful n f x
symbol_kept m n f words dimensions (Word w) h = rw (← words) h
symbol_kept m n f words dimensions (Reference a k) h =
    (h.0, h.1, h.2, ap (λ d. slice_get d h.0) (sym dimensions) ∙ h.3, h.4)

-- and so the same rules are
pub rule_kept : (m n : Meaning) (f : Function) (forms : List ℕ) (r : Rule) → length m.words ≡ length n.words → m.dimensions ≡ n.dimensions → RuleLawful m f forms r → RuleLawful n f forms r
rule_kept m n f forms r words dimensions h = record {
  one_form_each = h.one_form_each;
  forms_range = h.forms_range;
  form_range = h.form_range;
  one_sequence_each = ap (λ d. slice_get d f.result) (sym dimensions) ∙ h.one_sequence_each;
  sequence_range = h.sequence_range;
  symbols_lawful = All-weaker (AllByRecursion (SymbolLawful m f)) (AllByRecursion (SymbolLawful n f)) (All-weaker (SymbolLawful m f) (SymbolLawful n f) (symbol_kept m n f words dimensions)) r.sequences h.symbols_lawful;
}
