-- Word by word, up to the end of the part or of the phrase.
use Rattle.std.proofs.Common.{◌≡◌, ◌+◌, ◌-◌, take, drop, Some, None, ap, ◌∙◌, subst, arith}
use Rattle.congruence.specs.NodeItems.{IsWindowOf, put_together}
use Rattle.phrase.specs.Spelled.{words_of}
use Rattle.windows.specs.Strings.{own_string, phrase_of, word_at}
use Rattle.windows.proofs.Together.{part_more, part_outside}
use Rattle.windows.proofs.places.PhrasePlaces.push_part.Goals as goal

pub returns-in_err-push-clause-added : goal.returns-in_err-push-clause-added
returns-in_err-push-clause-added c =
    let phrase = phrase_of c.args.self.now in
    let now = own_string c.loop-place.self in
    let k = c.loop-place.place - c.args.start in
    let at : c.loop-place.place ≡ c.args.start + k = omega arith in
    rw c.from_residual.ensures
    (part_outside phrase (own_string c.args.self.now) c.args.start k now c.loop-place.invariant.1 c.args.length (omega arith) (omega (arith, c.len.ensures.count))
    (subst (λ p. IsWindowOf phrase (put_together now (word_at phrase p)) None) at
    (subst (λ p. IsWindowOf (words_of p.now) (put_together now (word_at (words_of p.now) c.loop-place.place)) None) c.loop-place.invariant.0 c.in_err-push.ensures.added)))

pub loop-place-preserved : goal.loop-place-preserved
loop-place-preserved c =
    let phrase = phrase_of c.args.self.now in
    let before = own_string c.args.self.now in
    let now = own_string c.loop-place.self in
    let k = c.loop-place.place - c.args.start in
    let at : c.loop-place.place ≡ c.args.start + k = omega arith in
    let more : k + 1 ≡ c.loop-place.place + 1 - c.args.start = omega arith in (
      c.in_ok-push.ensures.kept ∙ c.loop-place.invariant.0,
      c.in_ok-push.ensures.added
          ∙ ap (λ p. put_together now (word_at (words_of p.now) c.loop-place.place)) c.loop-place.invariant.0
          ∙ ap (λ p. put_together now (word_at phrase p)) at
          ∙ part_more phrase before c.args.start k now c.loop-place.invariant.1 (omega (arith, c.len.ensures.count))
          ∙ ap (λ n. put_together before (Some (take n (drop c.args.start phrase)))) more,
    )
