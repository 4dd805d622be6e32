-- The first word that is not one of the language's, or none.
use Rattle.std.proofs.Common.{rules, tests}
use Rattle.std.proofs.lemmas.Iterator.{IsFirst-from_position, YieldsList-from_slice}
use Rattle.tables.specs.Held.{held}
use Rattle.phrase.proofs.Looked.{Known, first_unknown}
use Rattle.phrase.proofs.words.Phrase.first_unknown.Goals as goal

pub returns : goal.returns
returns g c =
    let m = g.L.Language.meaning c.args.language.now in
    let words = held c.args.self.now.words in
    first_unknown m words c.position.result
    (IsFirst-from_position _ _ _ (λ b. Known m words b → ⊥) (Known m words) c.position.ensures.ran (YieldsList-from_slice words (cc)) (λ x q k. search (rules, tests)) (λ x q k. search (rules, tests)))
