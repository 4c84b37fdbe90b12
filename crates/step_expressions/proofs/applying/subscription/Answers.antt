use Rattle.std.proofs.Common.{sym, ap, ◌∙◌}
use Rattle.std.proofs.lemmas.Result.{IfOk-weaker}
use Rattle.meaning_script.specs.Pieces.{sized}
use Rattle.step_expressions.specs.OperatorForms.{by_two, item_of}
use Rattle.step_expressions.proofs.applying.subscription.Goals as goal

pub returns-in-Some : goal.returns-in-Some
returns-in-Some c =
    let th = c.args.thread.now in
    IfOk-weaker c.item_of.result _ _ (λ want f. record {
      does = λ w next.
          f.does w next ∙ ap (λ o. by_two o item_of th.state (sized (next th.left))) (sym c.in-Some.is ∙ c.two.ensures);
    }) c.item_of.ensures
