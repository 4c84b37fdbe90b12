use Rattle.py_frames.specs.declared.want.Want.TheVariants as wants
use Rattle.drive_straight.specs.Remains.{remains}
use Rattle.drive_straight.specs.declared.execution.Execution.{Execution}
use Rattle.py_run.proofs.InPlace.{stepped_behind}
use Rattle.py_run.proofs.Stepping.{stepped_out}
use Rattle.py_run.proofs.working.work_on.Goals as goal

pub returns-then-not-pay-clause-turned : goal.returns-then-not-pay-clause-turned
returns-then-not-pay-clause-turned c = rw c.in-Pay.is (stepped_out c.args.execution.now.budget _ _ (λ files whole fuel mine a. c.if-not-pay.ensures.moves files whole fuel mine _ a))

pub returns-else-not-pay-clause-turned : goal.returns-else-not-pay-clause-turned
returns-else-not-pay-clause-turned c =
    let old = c.args.execution.now in
    let paid : Execution = record { budget = c.pay.new.self; held = old.held; thread = old.thread; work = old.work } in
    rw c.in-Pay.is (stepped_behind old.budget (remains old (wants.Pay c.in-Pay.of_tree c.in-Pay.units c.in-Pay.item)) (remains paid (wants.Then c.in-Pay.item)) paid c.lead_on.new.execution c.lead_on.result
    (λ files whole fuel mine a. c.if-not-pay.ensures.moves files whole fuel mine _ a) c.lead_on.ensures.turned)

pub returns-in-Replied-clause-turned : goal.returns-in-Replied-clause-turned
returns-in-Replied-clause-turned c = rw c.in-Replied.is c.follow.ensures.turned

pub returns-in-Go-clause-turned : goal.returns-in-Go-clause-turned
returns-in-Go-clause-turned c = rw c.in-Go.is c.finish.ensures.turned
