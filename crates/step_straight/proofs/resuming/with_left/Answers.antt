use Rattle.std.proofs.Common.{[], ◌∙◌, rules, sym}
use Rattle.step_straight.proofs.OperatorCosts.{binary_form, compare_form, if_priced, resumes_comparison, resumes_operation, two_of_binary, two_of_compare}
use Rattle.step_straight.proofs.resuming.with_left.Goals as goal

pub take_right-requires : goal.take_right-requires
take_right-requires c =
    let form = binary_form c.args.expr.now c.in-Binary.field-1 c.in-Binary.right c.in-Binary.op (sym c.get.ensures ∙ c.in-Binary.is) in
    record { two = record { left = c.in-Binary.field-1; two = two_of_binary c.args.expr.now c.in-Binary.field-1 c.in-Binary.right c.in-Binary.op form } }

pub returns-in_ok-applied-in-Value : goal.returns-in_ok-applied-in-Value
returns-in_ok-applied-in-Value c =
    let e = c.args.expr.now in
    let x = c.args.left.now in
    let form = binary_form e c.in-Binary.field-1 c.in-Binary.right c.in-Binary.op (sym c.get.ensures ∙ c.in-Binary.is) in
    if_priced c.price.result (λ p h. resumes_operation e c.in-Binary.field-1 c.in-Binary.right c.args.thread.now c.in-Binary.op [] x x c.in-Value.right.value c.in-Value.right.units c.in_ok-applied-in-Value.applied p form
    (search rules) (search rules) h) c.price.ensures

pub take_right-requires-in-Compare : goal.take_right-requires-in-Compare
take_right-requires-in-Compare c =
    let form = compare_form c.args.expr.now c.in-Compare.field-1 c.in-Compare.right c.in-Compare.op (sym c.get.ensures ∙ c.in-Compare.is) in
    record { two = record { left = c.in-Compare.field-1; two = two_of_compare c.args.expr.now c.in-Compare.field-1 c.in-Compare.right c.in-Compare.op form } }

pub returns-in_ok-applied-in-Value-2 : goal.returns-in_ok-applied-in-Value-2
returns-in_ok-applied-in-Value-2 c =
    let e = c.args.expr.now in
    let x = c.args.left.now in
    let form = compare_form e c.in-Compare.field-1 c.in-Compare.right c.in-Compare.op (sym c.get.ensures ∙ c.in-Compare.is) in
    if_priced c.price-in-Value-2.result (λ p h. resumes_comparison e c.in-Compare.field-1 c.in-Compare.right c.args.thread.now c.in-Compare.op [] x x c.in-Value-2.right.value c.in-Value-2.right.units c.in_ok-applied-in-Value-2.applied p form
    (search rules) (search rules) h) c.price-in-Value-2.ensures
