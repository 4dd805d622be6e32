-- After a push that was not refused the pop is not refused either, and takes off what was put on.
use Rattle.std.proofs.Common.{◌≡◌, true, sym, ◌∙◌, rules}
use Rattle.std.proofs.lemmas.List.{same_from_push}
use Rattle.stack.proofs.tests.push_pop.Goals as goal

pub returns-then-push : goal.returns-then-push
returns-then-push g c =
    let popped : c.pop.result ≡ true = search rules in
    let both =
    same_from_push _ _ _ _ (sym (c.pop.ensures.top popped) ∙ c.push.ensures.put c.if-push.true)
    in
    record { back = λ _. both.1; kept = both.0; full = search rules; owner = search rules }
