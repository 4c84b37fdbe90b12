use Rattle.std.proofs.Common.{sym, subst, refl}
use Rattle.find_load.specs.Means.{Goes, wants}
use Rattle.find_load.specs.UnderWay.{goes_on_by}
use Rattle.find_load.specs.declared.import.Stage.{Stage}
use Rattle.find_load.proofs.waits.wait_for.Goals as goal

pub returns : goal.returns
returns c =
    let p = c.args.p.now in
    let Waits : Stage → Type 0 = λ stage. Goes (λ inside. wants inside c.args.want (goes_on_by p c.args.stage inside)) (record { name = p.name; turns = p.turns; is_lazy = p.is_lazy; stage = stage }) c.args.want in
    record { goes = subst Waits (sym c.replace-before.ensures.after) (record { goes = λ inside s k. refl }) }
