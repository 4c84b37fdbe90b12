use Rattle.std.proofs.Common.{◌≡◌, [], rules}
use Rattle.meaning_state.specs.declared.flow.Flow.TheVariants.{Left}
use Rattle.py_frames.specs.declared.want.Want.TheVariants as want
use Rattle.drive_straight.specs.Remains.{due, goes_on}
use Rattle.drive_straight.specs.declared.execution.Execution.{Execution}
use Rattle.drive_straight.specs.declared.next.Next.TheVariants as nexts
use Rattle.py_run.proofs.Framing.{a_frame, no_frame, left_comes}
use Rattle.py_run.proofs.InPlace.{led_behind, led_wanted, over_here}
use Rattle.py_run.proofs.Leading.{comes_on}
use Rattle.py_run.proofs.working.left.Goals as goal

pub returns-in-None-clause-moves : goal.returns-in-None-clause-moves
returns-in-None-clause-moves c =
    let old = c.args.execution.now in
    let over : Execution = record { budget = old.budget; held = old.held; thread = old.thread; work = c.unwind.new.self } in
    let none : c.unwind.new.self ≡ [] = search rules in
    led_wanted old over (due (nexts.Left c.args.way)) (want.Go (Left c.args.way)) c.wanted.result
    (over_here old (Left c.args.way) c.unwind.new.self
    (no_frame c.unwind.result old.work c.unwind.new.self (Left c.args.way) c.in-None.is (left_comes c.unwind.result old.work c.unwind.new.self c.args.way c.unwind.ensures)) none) c.wanted.ensures

pub returns-in-Some-clause-moves : goal.returns-in-Some-clause-moves
returns-in-Some-clause-moves c =
    let old = c.args.execution.now in
    let mid : Execution = record { budget = old.budget; held = old.held; thread = old.thread; work = c.unwind.new.self } in
    led_behind old mid c.leave.new.execution (due (nexts.Left c.args.way)) (goes_on c.in-Some.frame (Left c.args.way)) c.leave.result
    (comes_on old (Left c.args.way) c.in-Some.frame c.unwind.new.self
    (a_frame c.unwind.result old.work c.unwind.new.self (Left c.args.way) c.in-Some.frame c.in-Some.is (left_comes c.unwind.result old.work c.unwind.new.self c.args.way c.unwind.ensures))) c.leave.ensures.moves
