-- The first place from which the phrase has the words of the string, or none.
use Rattle.std.proofs.Common.{◌+◌, Some, None, rules, tests, refl, arith}
use Rattle.std.proofs.lemmas.Iterator.{first_from_find}
use Rattle.phrase.specs.Spelled.{words_of}
use Rattle.windows.specs.Strings.{SameFrom, places_of}
use Rattle.windows.proofs.Inclusive.{YieldsList-from_inclusive, first_number}
use Rattle.windows.proofs.Standing.{first_window, no_window}
use Rattle.windows.proofs.places.Places.find.Goals as goal

pub returns-in_err-start : goal.returns-in_err-start
returns-in_err-start c =
    let phrase = words_of c.args.phrase.now in
    let is = places_of c.args.self.now in
    let n = c.new.result.end in
    let none = first_number (SameFrom phrase is) (λ k. SameFrom phrase is k → ⊥) (n + 1) None
    (first_from_find _ _ None (SameFrom phrase is) (λ k. SameFrom phrase is k → ⊥) c.in_err-start.ensures.ran (YieldsList-from_inclusive c.new.result n c.new.ensures.start refl c.new.ensures.exhausted) (λ x q k. search (rules, tests)) (λ x q k. search (rules, tests))) in
    rw c.from_residual.ensures (no_window phrase is (λ j lt. none j (omega (arith, c.len.ensures, c.new.ensures.end))))

pub returns : goal.returns
returns c =
    let phrase = words_of c.args.phrase.now in
    let is = places_of c.args.self.now in
    let i = c.in_ok-start.start in
    let n = c.new.result.end in
    let found = first_number (SameFrom phrase is) (λ k. SameFrom phrase is k → ⊥) (n + 1) (Some i)
    (first_from_find _ _ (Some i) (SameFrom phrase is) (λ k. SameFrom phrase is k → ⊥) c.in_ok-start.ensures.ran (YieldsList-from_inclusive c.new.result n c.new.ensures.start refl c.new.ensures.exhausted) (λ x q k. search (rules, tests)) (λ x q k. search (rules, tests))) in
    rw c.len-2.ensures.count
    (first_window phrase is i (omega (arith, c.len.ensures, c.new.ensures.end, found.0)) found.1 (λ j lt. found.2 j lt))
