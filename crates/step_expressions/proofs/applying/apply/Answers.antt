use Rattle.std.proofs.Common.{sym, ap, ◌∙◌}
use Rattle.std.proofs.lemmas.Result.{IfOk-weaker}
use Rattle.py_syntax.specs.declared.expr.Expr.{out-Expr}
use Rattle.meaning_script.specs.Pieces.{Piece, sized}
use Rattle.meaning_script.specs.Meaning.{around_at}
use Rattle.step_expressions.specs.OperatorForms.{given_at, place_at}
use Rattle.step_expressions.proofs.OnLists.{given_is}
use Rattle.step_expressions.proofs.applying.apply.Goals as goal

pub returns-in-None : goal.returns-in-None
returns-in-None c =
    let th = c.args.thread.now in
    let none = ap (λ e. place_at (out-Expr e) c.args.values) (sym c.get.ensures) ∙ sym c.place_of.ensures ∙ c.in-None.is in
    IfOk-weaker c.by_form.result _ _ (λ want f. record {
      does = λ w next.
          f.does w next
          ∙ ap (λ e. given_at (around_at w th.left) (out-Expr e) c.args.values th.state (sized (next th.left))) c.get-in-None.ensures
          ∙ ap (λ (p : Piece). p th.state (sized (next th.left))) (given_is (around_at w th.left) (out-Expr c.args.expr) c.args.values none);
    }) c.by_form.ensures
