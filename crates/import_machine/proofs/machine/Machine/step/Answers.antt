use Rattle.std.proofs.Common.{sym, subst}
use Rattle.std.specs.Prelude.{IsTrue}
use Rattle.machine_spec.specs.declared.state.State.{State}
use Rattle.machine_spec.specs.Step.{step}
use Rattle.machine_spec.specs.Allowed.{allowed}
use Rattle.std.proofs.lemmas.Result.{IfOk-weaker}
use Rattle.machine_events.specs.Fitting.{Fits}
use Rattle.machine_laws.proofs.Fitting.{fits_step}
use Rattle.machine_laws.proofs.Steps.{sound_step, sound_by}
use Rattle.import_machine.proofs.machine.Machine.step.Goals as goal

pub invariant_of-self : goal.invariant_of-self
invariant_of-self c =
    let old = c.self.inside.state in
    let allowed_now = subst (λ (s : State). IsTrue (allowed s c.args.thread c.args.event)) (sym c.self.view_is) c.requires in
    (sound_by c.step_counted.result old c.step_counted.new.state (step old c.args.thread c.args.event).1 c.self.invariant.0 (sound_step old c.self.invariant.0 c.args.thread c.args.event allowed_now) c.step_counted.ensures.ok c.step_counted.ensures.err, c.step_counted.ensures.counted)

pub returns-clause-fits : goal.returns-clause-fits
returns-clause-fits c =
    let old = c.self.inside.state in
    let allowed_now = subst (λ (s : State). IsTrue (allowed s c.args.thread c.args.event)) (sym c.self.view_is) c.requires in
    let fits = fits_step old c.self.invariant.0 c.args.thread c.args.event allowed_now in
    IfOk-weaker c.step_counted.result _ _ (λ reply is. subst (Fits c.args.event) (sym is) fits) c.step_counted.ensures.reply
