use Rattle.std.proofs.Common.{sym, ap, ◌∙◌}
use Rattle.std.proofs.lemmas.Result.{IfOk-weaker}
use Rattle.meaning_script.specs.Pieces.{Piece}
use Rattle.step_simple.specs.Known.{sets_known}
use Rattle.step_simple.proofs.Counted.{triple_is}
use Rattle.step_simple.proofs.targets.assign_item.Goals as goal

pub returns-in-Some : goal.returns-in-Some
returns-in-Some c =
    let th = c.args.thread.now in
    IfOk-weaker c.set_item.result _ _ (λ want f. record {
      does = λ w next.
          f.does w next
          ∙ ap (λ (p : Piece). p th.state (next th.left)) (triple_is c.args.values c.in-Some.value c.in-Some.object c.in-Some.index (λ v o i. sets_known o i v) (sym c.triple.ensures ∙ c.in-Some.is));
    }) c.set_item.ensures
