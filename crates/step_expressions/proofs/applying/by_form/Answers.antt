use Rattle.std.proofs.Common.{sym, ◌∙◌}
use Rattle.std.proofs.lemmas.Result.{IfOk-weaker}
use Rattle.py_syntax.specs.declared.expr.Expr.{out-Expr}
use Rattle.meaning_script.specs.Pieces.{sized}
use Rattle.meaning_script.specs.Meaning.{around_at}
use Rattle.step_expressions.proofs.OperatorLayers.{call_is}
use Rattle.step_expressions.proofs.applying.by_form.Goals as goal

pub returns-then-is_call : goal.returns-then-is_call
returns-then-is_call c =
    IfOk-weaker c.call.result _ _ (λ want f. record {
      does = λ w next.
          f.does w next ∙ call_is (around_at w c.args.thread.now.left) (out-Expr c.args.expr.now) c.args.values c.args.thread.now.state (sized (next c.args.thread.now.left)) (sym c.is_call.ensures ∙ c.if-is_call.true);
    }) c.call.ensures
