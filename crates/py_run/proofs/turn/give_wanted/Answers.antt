use Rattle.py_run.proofs.Dues.{event_due, step_due, look_due}
use Rattle.py_run.proofs.turn.give_wanted.Goals as goal

pub returns-in-Call : goal.returns-in-Call
returns-in-Call g c = rw c.in-Call.is (event_due _ _ _ _ _ _ _ _ c.call.result c.call.ensures)

pub returns-in-Wait : goal.returns-in-Wait
returns-in-Wait g c = rw c.in-Wait.is (event_due _ _ _ _ _ _ _ _ c.wait.result c.wait.ensures)

pub returns-in-Find : goal.returns-in-Find
returns-in-Find g c = rw c.in-Find.is c.find.ensures

pub returns-in-File : goal.returns-in-File
returns-in-File g c = rw c.in-File.is (look_due _ _ _ _ _ _ _ _ _ _ c.file.result c.file.ensures c.requires.stood.holds)

pub returns-in_default : goal.returns-in_default
returns-in_default g c = step_due _ _ _ _ _ _ _ c.work_on.result c.work_on.ensures.turned (rw c.work_on.ensures.held c.requires.stood.holds) c.work_on.ensures.refused
