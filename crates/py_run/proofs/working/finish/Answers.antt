use Rattle.std.proofs.Common.{refl}
use Rattle.py_frames.specs.declared.want.Want.TheVariants as want
use Rattle.drive_straight.specs.Remains.{remains}
use Rattle.py_run.proofs.Leading.{comes_on, hands_next}
use Rattle.py_run.proofs.Stepping.{stepped_came}
use Rattle.py_run.proofs.working.finish.Goals as goal

pub returns-in-None-clause-turned : goal.returns-in-None-clause-turned
returns-in-None-clause-turned c = stepped_came c.args.execution.now.budget c.args.execution.now _ c.args.flow refl c.in-None.ensures

pub returns-in-Ok-clause-turned : goal.returns-in-Ok-clause-turned
returns-in-Ok-clause-turned c =
    let old = c.args.execution.now in
    hands_next old.budget (remains old (want.Go c.args.flow)) c.leave.new.execution c.in-Ok.next
    (λ files whole fuel mine a. c.in-Ok.ensures.moves files whole fuel mine (comes_on old c.args.flow c.in-Some.frame c.next_frame.new.work c.in-Some.ensures files whole fuel mine a))
