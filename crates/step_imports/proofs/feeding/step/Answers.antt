use Rattle.step_imports.proofs.Turns.{lifted_as, step_fed}
use Rattle.step_imports.proofs.feeding.step.Goals as goal

pub returns-in-Ok : goal.returns-in-Ok
returns-in-Ok g c =
    step_fed g.P.Steps.imports_parent g.P.Steps.means g.P.Steps.held c.args.thread.now c.args.procedure c.get_mut.result.now c.step.new.self c.args.input
    c.in-Ok.want c.lift.result g.met.P.Steps.is_fed c.get_mut.ensures.value c.in-Ok.ensures
    (lifted_as c.args.thread.now c.in-Ok.want c.lift.result _ _ _ _ c.is_parent-is_parent.ensures c.hold.ensures c.lift.ensures)
