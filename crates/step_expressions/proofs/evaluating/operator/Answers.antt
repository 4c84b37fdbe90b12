use Rattle.std.proofs.Common.{sym, ap, ◌∙◌}
use Rattle.std.proofs.lemmas.Result.{IfOk-weaker}
use Rattle.py_syntax.specs.declared.expr.Expr.{out-Expr}
use Rattle.meaning_script.specs.Meaning.{around_at}
use Rattle.py_frames.specs.Does.{item_does}
use Rattle.py_frames.specs.declared.work.Form.TheVariants.{Expression}
use Rattle.py_frames.specs.declared.work.Item.TheVariants as items
use Rattle.step_expressions.specs.Forms.{callee_object}
use Rattle.step_expressions.proofs.Layers.{operator_is}
use Rattle.step_expressions.proofs.evaluating.operator.Goals as goal

pub returns-in-None : goal.returns-in-None
returns-in-None c =
    let th = c.args.thread.now in
    let none = ap (λ e. callee_object (out-Expr e)) (sym c.get.ensures) ∙ sym c.in_ok-object.ensures ∙ c.in-None.is in
    IfOk-weaker c.operands.result _ _ (λ want f. record {
      does = λ w next.
          f.does w next
          ∙ ap (λ vs. item_does w th.left (items.Operands (Expression c.args.expr) vs) next th.state) c.new.ensures
          ∙ operator_is (around_at w th.left) (out-Expr c.args.expr) th.state (next th.left) c.requires.left c.requires.atom none;
    }) c.operands.ensures
