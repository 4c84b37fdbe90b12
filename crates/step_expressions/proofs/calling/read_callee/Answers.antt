use Rattle.std.proofs.Common.{ap, ◌∙◌, ◌++◌, ◌∷◌, [], Some}
use Rattle.py_syntax.specs.declared.expr.Expr.{out-Expr}
use Rattle.meaning_script.specs.Meaning.{around_at}
use Rattle.py_frames.specs.Does.{arguments_of, method_name}
use Rattle.step_expressions.proofs.Layers.{reads_it}
use Rattle.step_expressions.proofs.calling.read_callee.Goals as goal

pub returns : goal.returns
returns c =
    let th = c.args.thread.now in
    let pushed = c.in_ok-push.ensures.ok ∙ ap (λ vs. vs ++ c.args.object ∷ []) c.new-values.ensures in
    let named = c.in_ok-callee.ensures ∙ ap (λ e. Some (method_name e)) c.get.ensures in
    record {
      does = λ w next.
          rw (pushed, c.new.ensures)
          (reads_it (around_at w th.left) (out-Expr c.in_ok-callee.callee) (out-Expr c.in_ok-call.call) (method_name c.args.expr) (arguments_of c.args.expr) c.args.object th.state (next th.left) named c.in_ok-call.ensures);
    }
