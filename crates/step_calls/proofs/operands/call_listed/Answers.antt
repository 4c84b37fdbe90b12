use Rattle.std.proofs.Common.{◌∙◌, ap, [], ◌∷◌, ◌++◌}
use Rattle.step_calls.proofs.Listed.{called_again}
use Rattle.step_calls.proofs.operands.call_listed.Goals as goal

pub returns : goal.returns
returns c =
    called_again c.args.thread.now c.args.callee c.args.value c.in_ok-copy.field-0 _ c.list_operand.result
    (c.in_ok-push.ensures.ok ∙ ap (λ vs. vs ++ c.in_ok-copy.field-0 ∷ []) c.new-arguments.ensures) c.list_operand.ensures
