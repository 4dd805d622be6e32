-- Each word of the string is asked for at its place.
use Rattle.std.proofs.Common.{◌+◌, rules, tests}
use Rattle.std.proofs.lemmas.Iterator.{YieldsList-from_slice, cases_from_all}
use Rattle.std.proofs.lemmas.Iterator.Consumers.{YieldsList-from_enumerate}
use Rattle.phrase.specs.Places.{SameAt}
use Rattle.phrase.specs.Spelled.{words_of}
use Rattle.windows.specs.Strings.{places_of}
use Rattle.windows.proofs.Standing.{same_decides}
use Rattle.windows.proofs.places.Places.stands_at.Goals as goal

pub returns : goal.returns
returns c =
    let phrase = words_of c.args.phrase.now in
    let is = places_of c.args.self.now in
    same_decides phrase is c.args.start c.all.result
    (cases_from_all _ _ _ (λ p. SameAt phrase (c.args.start + p.0) p.1) (λ p. SameAt phrase (c.args.start + p.0) p.1 → ⊥) c.all.ensures.ran (YieldsList-from_enumerate (YieldsList-from_slice is (cc)) (cc)) (λ x q k. search (rules, tests)) (λ x q k. search (rules, tests)))
