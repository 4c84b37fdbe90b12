use Rattle.std.proofs.Common.{rules}
use Rattle.meaning_state.specs.declared.flow.Flow.TheVariants.{Went}
use Rattle.py_frames.specs.declared.work.Frame.{Frame}
use Rattle.py_frames.specs.declared.work.Frame.TheVariants as frame
use Rattle.drive_straight.specs.Remains.{gives, goes_on}
use Rattle.drive_straight.specs.declared.execution.Execution.{Execution}
use Rattle.drive_straight.proofs.Operands.{leads_behind, put_back, same_run, taken}
use Rattle.drive_straight.proofs.resuming.give_operand.Goals as goal

pub returns-in-Some-Operands-clause-moves : goal.returns-in-Some-Operands-clause-moves
returns-in-Some-Operands-clause-moves c =
    let old = c.args.execution.now in
    let mid : Execution = record { budget = old.budget; held = old.held; thread = old.thread; work = c.pop.new.self } in
    let f : Frame = frame.Operands c.in-Some-Operands.form c.in-Some-Operands.done in
    leads_behind old mid c.resume_operand.new.execution (gives c.args.value) (goes_on f (Went c.args.value)) c.resume_operand.result
    (same_run old.budget _ _ (taken old f c.pop.new.self c.args.value (search rules))) c.resume_operand.ensures.moves

pub returns-in_ok-push-in-Some : goal.returns-in_ok-push-in-Some
returns-in_ok-push-in-Some c =
    let old = c.args.execution.now in
    let back : Execution = record { budget = old.budget; held = old.held; thread = old.thread; work = c.push.new.self } in
    record {
      moves =
          leads_behind old back c.give.new.execution (gives c.args.value) (gives c.args.value) c.give.result
          (same_run old.budget _ _ (put_back old c.in-Some.frame c.pop.new.self c.push.new.self c.args.value (search rules) (search rules))) c.give.ensures.moves;
      held = c.give.ensures.held;
    }
