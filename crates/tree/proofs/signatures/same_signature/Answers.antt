-- Where the counts and the start categories are the same, the functions decide.
use Rattle.std.proofs.Common.{◌≡◌, Decides, rules, tests, sym, ◌∙◌}
use Rattle.std.proofs.lemmas.Bool.{true≢false, eqb-true}
use Rattle.grammar.specs.Tables.{signature_of}
use Rattle.tree.proofs.Same.{functions_decide}
use Rattle.tree.proofs.signatures.same_signature.Goals as goal
use Rattle.tree.proofs.signatures.same_signature.Goals.{then-categories, else-categories}

alike : (c : goal.After-eq) → (c.args.first.now.categories ≡ c.args.second.now.categories) × (c.args.first.now.start ≡ c.args.second.now.start)
alike c =
    elim c.if-categories.branch [
      | then-categories w ↦ (search (rules, tests), search (rules, tests))
      | else-categories w ↦ absurd (w.if-categories.false (eqb-true _ _ (sym w.value-is ∙ c.if-start.true)))
    ]

decided : (c : goal.After-eq) → Decides c.eq.result (signature_of c.args.first.now ≡ signature_of c.args.second.now)
decided c =
    let a = alike c in
    functions_decide (λ f g. search (rules, tests)) c.args.first.now c.args.second.now a.0 a.1 c.functions.result.now c.functions-then-start.result.now c.functions.ensures c.functions-then-start.ensures c.eq.result c.eq.ensures

pub returns-then-start-clause-same : goal.returns-then-start-clause-same
returns-then-start-clause-same c = (decided c).0

pub returns-then-start-clause-other : goal.returns-then-start-clause-other
returns-then-start-clause-other c = λ no e. true≢false (sym ((decided c).1 e) ∙ no)
