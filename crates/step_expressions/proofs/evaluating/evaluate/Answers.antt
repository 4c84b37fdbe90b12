use Rattle.std.proofs.Common.{sym, ap, ◌∙◌}
use Rattle.std.proofs.lemmas.Result.{IfOk-weaker}
use Rattle.meaning_script.specs.Meaning.{around_at}
use Rattle.step_expressions.proofs.Layers.{eval_is}
use Rattle.step_expressions.proofs.evaluating.evaluate.Goals as goal

pub returns : goal.returns
returns c =
    IfOk-weaker c.by_form.result _ _ (λ want f. record {
      does = λ w next.
          f.does w next ∙ sym (ap (λ p. p c.args.thread.now.state (next c.args.thread.now.left)) (eval_is (around_at w c.args.thread.now.left) c.args.expr));
    }) c.by_form.ensures
