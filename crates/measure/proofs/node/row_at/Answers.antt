-- The arguments are found one after the other, each where the one before it ends.
use Rattle.std.proofs.Common.{Ok, ap, ◌∙◌, subst, arith}
use Rattle.std.proofs.lemmas.Grind.{common_steps}
use Rattle.grammar.specs.Questions.{argument_list}
use Rattle.grammar.specs.Trees.{HaveCategories}
use Rattle.measure.specs.Sums.{all_three}
use Rattle.measure.proofs.Rows.{no_argument, one_argument, two_arguments, three_arguments}
use Rattle.measure.proofs.node.row_at.Goals as goal

pub returns-in-Zero : goal.returns-in-Zero
returns-in-Zero c m s t ts have at measured =
    no_argument m s t c.args.place c.args.table.now measured ts c.three.result (subst (λ a. HaveCategories s (argument_list a) ts) c.in-Zero.is have) (c.three.ensures ∙ ap (λ n. all_three (Ok n) (Ok n) (Ok n)) (grind (arith, common_steps)))

pub returns-in-One : goal.returns-in-One
returns-in-One c m s t ts have at measured =
    let n = c.at-first.result in
    one_argument m s t c.args.place c.args.table.now measured c.in-One.field-0 ts n c.three-in-One.result (subst (λ a. HaveCategories s (argument_list a) ts) c.in-One.is have) at c.at-first.ensures (c.three-in-One.ensures ∙ ap (λ e. all_three n.said (Ok e) (Ok e)) (grind (arith, common_steps)))

pub returns-in-Two : goal.returns-in-Two
returns-in-Two c m s t ts have at measured =
    let n = c.at-first-in-Two.result in
    let k = c.at-second.result in
    two_arguments m s t c.args.place c.args.table.now measured c.in-Two.field-0 c.in-Two.field-1 ts n k c.three-in-Two.result (subst (λ a. HaveCategories s (argument_list a) ts) c.in-Two.is have) at c.at-first-in-Two.ensures c.at-second.ensures (c.three-in-Two.ensures ∙ ap (λ e. all_three n.said k.said (Ok e)) (grind (arith, common_steps)))

pub returns-in-Three : goal.returns-in-Three
returns-in-Three c m s t ts have at measured =
    three_arguments m s t c.args.place c.args.table.now measured c.in-Three.field-0 c.in-Three.field-1 c.in-Three.field-2 ts c.at-first-in-Three.result c.at-second-in-Three.result c.at-third.result c.three-in-Three.result (subst (λ a. HaveCategories s (argument_list a) ts) c.in-Three.is have) at c.at-first-in-Three.ensures c.at-second-in-Three.ensures c.at-third.ensures c.three-in-Three.ensures
