-- Each way through the walk is a step of the model's walk.
use Rattle.std.proofs.Common.{◌≡◌, ◌-◌, ◌≤◌, length, get_or, Some, None, sym, ◌∙◌, mul-le-mul_right, arith, rules}
use Rattle.std.proofs.lemmas.Bool.{ltb-false}
use Rattle.grammar.specs.DraftWalk.{root}
use Rattle.grammar.specs.DraftWalk.Root.{wrong}
use Rattle.grammar.specs.Tables.{signature_of, typed}
use Rattle.draft.specs.Walks.{most}
use Rattle.draft.proofs.Steps.{at_most_three, front, in_table, most_step, one_built, one_hole, one_more, one_wrong, root_function, root_none, root_other}
use Rattle.draft.proofs.nodes.DraftNodes.+walk.Goals as goal
use Rattle.draft.proofs.nodes.DraftNodes.+walk.Goals.{read_one-in_default-function-via-in-Some+else-function-category, read_one-in_default-function-via-in_default-function}

-- three arguments: the second has a fault, or all are read; two arguments: both are read

-- there is room for the node, and then for its arguments

pub read_one-read_all-requires : goal.read_one-read_all-requires
read_one-read_all-requires t c =
    let more = one_more _ _ _ c.push-in-Some.ensures in
    let few = mul-le-mul_right (most (c.args.left - 1)) (at_most_three c.in-Some.function.arguments) in
    (search rules, omega (arith, most_step c.args.left (omega arith)))

-- the byte is a hole's, a function's with the right result, or neither
pub read_one-returns-then-root : goal.read_one-returns-then-root
read_one-returns-then-root t c =
    let s = signature_of c.args.signature.now in
    let long : 1 ≤ length c.args.code.now = omega (arith, ltb-false) in
    one_hole s c.args.left c.args.category (omega arith) (front c.args.code.now long) c.if-root.true c.push.ensures

pub read_one-returns-in-Some : goal.read_one-returns-in-Some
read_one-returns-in-Some t c =
    let s = signature_of c.args.signature.now in
    let f = c.in-Some.function in
    let long : 1 ≤ length c.args.code.now = omega (arith, ltb-false) in
    let known = in_table c.args.signature.now _ (Some f) c.in-Some.ensures in
    let is = root_function s c.args.category _ (typed f) c.if-root.false known c.if-function-category.true in
    one_built s c.args.left c.args.category (typed f) _ _ _ _ (omega arith) (front c.args.code.now long) is known (at_most_three f.arguments) c.push-in-Some.ensures c.read_all.ensures

pub read_one-returns-in_default-function : goal.read_one-returns-in_default-function
read_one-returns-in_default-function t c =
    let s = signature_of c.args.signature.now in
    let long : 1 ≤ length c.args.code.now = omega (arith, ltb-false) in
    let is : root s c.args.category (get_or c.args.code.now 0 0) ≡ wrong =
    elim c.in_default-function.branch [
      | read_one-in_default-function-via-in-Some+else-function-category w ↦
          let known = in_table c.args.signature.now _ (Some w.in-Some.function) w.in-Some.ensures in
          root_other s _ _ _ c.if-root.false known w.if-function-category.false
      | read_one-in_default-function-via-in_default-function w ↦
          let none : c.function.result ≡ None = search rules in
          root_none s _ _ c.if-root.false (in_table c.args.signature.now _ None (sym none ∙ c.function.ensures))
    ] in
    one_wrong s c.args.left c.args.category (omega arith) (front c.args.code.now long) is c.len-in_default-function.ensures
