use Rattle.std.proofs.Common.{refl}
use Rattle.drive_straight.specs.Remains.{remains}
use Rattle.drive_straight.specs.declared.execution.Execution.{Execution}
use Rattle.py_run.specs.Turns.{replied_at}
use Rattle.py_run.proofs.InPlace.{stepped_behind}
use Rattle.py_run.proofs.Leading.{replied_on}
use Rattle.py_run.proofs.working.reply_to.Goals as goal

pub returns-in-Ok-clause-turned : goal.returns-in-Ok-clause-turned
returns-in-Ok-clause-turned c =
    let old = c.args.execution.now in
    let after : Execution = record { budget = old.budget; held = old.held; thread = c.replied.new.thread; work = old.work } in
    stepped_behind old.budget (replied_at c.args.on c.args.reply old) (remains after c.in-Ok.want) after c.lead_on.new.execution c.lead_on.result
    (replied_on old after c.args.on c.args.reply c.replied.new.thread c.replied.result c.in-Ok.want refl c.in-Ok.is c.replied.ensures) c.lead_on.ensures.turned
