use Rattle.drive_straight.specs.Remains.{due, remains}
use Rattle.py_run.proofs.InPlace.{stepped_behind}
use Rattle.py_run.proofs.working.lead_on.Goals as goal

pub returns-in-Ok-clause-turned : goal.returns-in-Ok-clause-turned
returns-in-Ok-clause-turned c =
    let old = c.args.execution.now in
    let mid = c.lead.new.execution in
    stepped_behind old.budget (remains old c.args.want) (due c.in-Ok.next mid) mid c.go_straight.new.execution c.go_straight.result c.in-Ok.ensures.moves c.go_straight.ensures.turned
