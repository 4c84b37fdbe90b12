use Rattle.std.proofs.Common.{◌∙◌, refl}
use Rattle.std.proofs.lemmas.Result.{IfOk-weaker}
use Rattle.step_simple.proofs.members.delete_awake.Goals as goal

pub returns : goal.returns
returns c =
    IfOk-weaker c.rouse.result _ _ (λ want f. record {
      does = λ w next. f.does w next ∙ rw (c.mid.ensures, c.in_ok-deleted.ensures, c.in_ok-lazy.ensures) refl;
    }) c.rouse.ensures
