use Rattle.std.proofs.Common.{[], ◌∷◌, ◌∙◌, rules, sym}
use Rattle.step_straight.proofs.OperatorCosts.{binary_form, came_right, compare_form, if_priced, resumes_comparison, resumes_operation, two_of_binary, two_of_compare}
use Rattle.step_straight.proofs.resuming.with_right.Goals as goal

pub returns-in_ok-binary-in-Binary : goal.returns-in_ok-binary-in-Binary
returns-in_ok-binary-in-Binary c =
    let e = c.args.expr.now in
    let a = c.in-Binary.field-1 in
    let b = c.in-Binary.field-2 in
    let x = c.args.left.now in
    let y = c.args.right.now in
    let form = binary_form e a b c.in-Binary.op (sym c.get.ensures ∙ c.in-Binary.is) in
    let both = came_right e a b c.args.thread.now x y (two_of_binary e a b c.in-Binary.op form) (search rules) (search rules) in
    if_priced c.price.result (λ p h. resumes_operation e a b c.args.thread.now c.in-Binary.op (x ∷ []) y x y 0 c.in_ok-binary-in-Binary.field-0 p form both (search rules) h) c.price.ensures

pub returns-in_ok-compared-in-Compare : goal.returns-in_ok-compared-in-Compare
returns-in_ok-compared-in-Compare c =
    let e = c.args.expr.now in
    let a = c.in-Compare.field-1 in
    let b = c.in-Compare.field-2 in
    let x = c.args.left.now in
    let y = c.args.right.now in
    let form = compare_form e a b c.in-Compare.op (sym c.get.ensures ∙ c.in-Compare.is) in
    let both = came_right e a b c.args.thread.now x y (two_of_compare e a b c.in-Compare.op form) (search rules) (search rules) in
    if_priced c.price-in-Compare.result (λ p h. resumes_comparison e a b c.args.thread.now c.in-Compare.op (x ∷ []) y x y 0 c.in_ok-compared-in-Compare.field-0 p form both (search rules) h) c.price-in-Compare.ensures
