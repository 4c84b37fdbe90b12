use Rattle.std.proofs.Common.{sym, subst, refl}
use Rattle.find_load.specs.Means.{wants}
use Rattle.reload_lazy.specs.Reload.{ReloadGoes}
use Rattle.reload_lazy.specs.Reloading.{goes_on_by}
use Rattle.reload_lazy.specs.declared.reloader.ReloadStage.{ReloadStage}
use Rattle.reload_lazy.proofs.waits.wait_for.Goals as goal

pub returns : goal.returns
returns c =
    let p = c.args.p.now in
    let Waits : ReloadStage → Type 0 = λ stage. ReloadGoes (λ inside. wants inside c.args.want (goes_on_by p c.args.name c.args.awaited inside)) (record { «module» = p.«module»; turns = p.turns; stage = stage }) c.args.want in
    record { goes = subst Waits (sym c.replace-before.ensures.after) (record { goes = λ inside s k. refl }) }
