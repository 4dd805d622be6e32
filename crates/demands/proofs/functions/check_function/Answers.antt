-- The arguments are checked one by one, once the result and the arity are known to be in range.
use Rattle.std.proofs.Common.{◌≡◌, [], ◌∷◌, rules}
use Rattle.view.specs.Views.{image}
use Rattle.demands.specs.Check.{argument_demand, first_broken}
use Rattle.demands.specs.Told.{told}
use Rattle.demands.proofs.Demands.{tried}
use Rattle.demands.proofs.functions.check_function.Goals as goal

pub returns : goal.returns
returns c =
    let b = image c.args.view.now in
    let last : told c.try_for_each.result ≡ first_broken (argument_demand b c.args.function 0 ∷ argument_demand b c.args.function 1 ∷ argument_demand b c.args.function 2 ∷ []) =
    tried (λ a. argument_demand b c.args.function a ∷ []) 3 (λ x w q k. search rules) (search rules) c.try_for_each.ensures.ran in
    search rules
