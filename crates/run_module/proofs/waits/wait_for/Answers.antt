use Rattle.std.proofs.Common.{sym, subst, refl}
use Rattle.find_load.specs.Means.{wants}
use Rattle.run_module.specs.Means.{Goes}
use Rattle.run_module.specs.UnderWay.{goes_on_by}
use Rattle.run_module.specs.declared.start.Stage.{Stage}
use Rattle.run_module.proofs.waits.wait_for.Goals as goal

pub returns : goal.returns
returns c =
    let p = c.args.p.now in
    let Waits : Stage → Type 0 = λ stage. Goes (λ inside. wants inside c.args.want (goes_on_by p c.args.stage inside)) (record { script = p.script; home = p.home; name = p.name; stage = stage }) c.args.want in
    record { goes = subst Waits (sym c.replace-before.ensures.after) (record { goes = λ inside s k. refl }) }
