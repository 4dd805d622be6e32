-- The word is one of the language's by its place, and if it is at no place, it is none of them.
use Rattle.std.proofs.Common.{rules, tests, ◌≡◌, Some, refl, arith}
use Rattle.std.specs.List.{slice_get}
use Rattle.std.proofs.lemmas.Iterator.{YieldsList-from_range, cases_from_any}
use Rattle.grammar.proofs.Ranges.{any_numbers}
use Rattle.phrase.proofs.Looked.{any_decides}
use Rattle.phrase.proofs.spellings.has_word.Goals as goal

pub returns : goal.returns
returns g c =
    let words = (g.L.Language.meaning c.args.language.now).words in
    let w = c.args.bytes.now in
    let n = c.words.result in
    any_decides words w n c.any.result c.words.ensures
    (any_numbers (λ k. slice_get words k ≡ Some w) (λ k. slice_get words k ≡ Some w → ⊥) n c.any.result
    (cases_from_any _ _ _ (λ k. slice_get words k ≡ Some w) (λ k. slice_get words k ≡ Some w → ⊥) c.any.ensures.ran (YieldsList-from_range 0 n n refl (omega arith)) (λ x q k. search (rules, tests)) (λ x q k. search (rules, tests))))
