-- The bytes are compared one by one.
use Rattle.std.proofs.Common.{◌∙◌, rules, tests, sym, refl, arith}
use Rattle.std.specs.List.{slice_get}
use Rattle.std.proofs.lemmas.Iterator.{YieldsList-from_range, cases_from_all}
use Rattle.grammar.proofs.Ranges.{all_numbers}
use Rattle.phrase.proofs.Bytewise.{Alike, alike_decides}
use Rattle.phrase.proofs.spellings.is_word.Goals as goal

pub returns-then-from-bytes : goal.returns-then-from-bytes
returns-then-from-bytes g c =
    let o = slice_get (g.L.Language.meaning c.args.language.now).words c.args.word in
    let bytes = c.args.bytes.now in
    let n = c.in-Some.length in
    alike_decides o bytes n c.all.result (sym c.in-Some.ensures) (sym c.from.ensures ∙ c.if-from-bytes.true)
    (all_numbers (Alike o bytes) (λ k. Alike o bytes k → ⊥) n c.all.result
    (cases_from_all _ _ _ (Alike o bytes) (λ k. Alike o bytes k → ⊥) c.all.ensures.ran (YieldsList-from_range 0 n n refl (omega arith)) (λ x q k. search (rules, tests)) (λ x q k. search (rules, tests))))
