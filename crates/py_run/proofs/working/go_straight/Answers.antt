use Rattle.drive_straight.specs.Remains.{due}
use Rattle.py_run.proofs.Leading.{hands_next}
use Rattle.py_run.proofs.working.go_straight.Goals as goal

pub returns-in-Ok-clause-turned : goal.returns-in-Ok-clause-turned
returns-in-Ok-clause-turned c = hands_next c.args.execution.now.budget (due c.args.next c.args.execution.now) c.straight.new.execution c.in-Ok.next c.in-Ok.ensures.moves
