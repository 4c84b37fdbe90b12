use Rattle.std.proofs.Common.{sym, subst, refl}
use Rattle.find_load.specs.Means.{wants}
use Rattle.run_module.specs.Rouse.{RouseGoes}
use Rattle.run_module.specs.Rousing.{goes_on_by}
use Rattle.run_module.specs.declared.rouser.RouseStage.{RouseStage}
use Rattle.run_module.proofs.rouse.wait_for.Goals as goal

pub returns : goal.returns
returns c =
    let p = c.args.p.now in
    let Waits : RouseStage → Type 0 = λ stage. RouseGoes (λ inside. wants inside c.args.want (goes_on_by p c.args.stage inside)) (record { «module» = p.«module»; turns = p.turns; stage = stage }) c.args.want in
    record { goes = subst Waits (sym c.replace-before.ensures.after) (record { goes = λ inside s k. refl }) }
