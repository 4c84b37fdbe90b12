use Rattle.std.proofs.Common.{refl, rules}
use Rattle.meaning_state.specs.declared.flow.Flow.TheVariants.{Went}
use Rattle.py_frames.specs.declared.work.Frame.TheVariants as frame
use Rattle.drive_straight.specs.Remains.{gives, goes_on}
use Rattle.drive_straight.specs.declared.execution.Execution.{Execution}
use Rattle.drive_straight.proofs.AtOnce.{paid_size}
use Rattle.drive_straight.proofs.Operands.{leads_behind}
use Rattle.drive_straight.proofs.resuming.resume_sized.Goals as goal

pub returns-clause-moves : goal.returns-clause-moves
returns-clause-moves c =
    let old = c.args.execution.now in
    let paid : Execution = record { budget = c.afford.new.budget; held = old.held; thread = old.thread; work = old.work } in
    leads_behind old paid c.give_operand.new.execution (goes_on frame.Sized (Went c.args.value)) (gives c.args.value) c.give_operand.result
    (paid_size old (Went c.args.value) c.args.value c.size.result c.afford.new.budget refl (search rules) (c.if-not-afford.ensures.paid refl)) c.give_operand.ensures.moves
