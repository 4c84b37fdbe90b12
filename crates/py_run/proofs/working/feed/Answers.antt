use Rattle.std.proofs.Common.{sym}
use Rattle.std.proofs.lemmas.Result.{IfOk-weaker}
use Rattle.step_calls.specs.Sources.{sources}
use Rattle.py_frames.specs.Does.{rest}
use Rattle.drive_straight.specs.declared.execution.Execution.{Execution}
use Rattle.py_run.specs.Turns.{feeds, remains}
use Rattle.py_run.proofs.Leading.{stepped_as}
use Rattle.py_run.proofs.working.feed.Goals as goal

pub returns-in-Ok-clause-turned : goal.returns-in-Ok-clause-turned
returns-in-Ok-clause-turned c =
    let old = c.args.execution.now in
    let after : Execution = record { budget = old.budget; held = old.held; thread = c.fed.new.thread; work = old.work } in
    IfOk-weaker c.lead_on.result _ _ (λ t step. stepped_as old.budget c.lead_on.new.execution t (feeds old c.args.procedure c.args.input) (remains after c.in-Ok.want)
    (sym (c.in-Ok.ensures.does (rest sources old.work))) step) c.lead_on.ensures.turned
