use Rattle.std.proofs.Common.{sym, ap, ◌∙◌}
use Rattle.std.proofs.lemmas.Result.{IfOk-weaker}
use Rattle.meaning_script.specs.Pieces.{Piece}
use Rattle.step_simple.specs.Known.{deletes_known}
use Rattle.step_simple.proofs.Counted.{pair_is}
use Rattle.step_simple.proofs.targets.remove_item.Goals as goal

pub returns-in-Some : goal.returns-in-Some
returns-in-Some c =
    let th = c.args.thread.now in
    IfOk-weaker c.delete_item.result _ _ (λ want f. record {
      does = λ w next.
          f.does w next
          ∙ ap (λ (p : Piece). p th.state (next th.left)) (pair_is c.args.values c.in-Some.object c.in-Some.index deletes_known (sym c.pair.ensures ∙ c.in-Some.is));
    }) c.delete_item.ensures
