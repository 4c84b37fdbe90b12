use Rattle.std.proofs.Common.{refl}
use Rattle.py_frames.specs.declared.work.Form.TheVariants.{Expression}
use Rattle.py_frames.specs.declared.work.Item.TheVariants as it
use Rattle.drive_straight.specs.Remains.{begins}
use Rattle.drive_straight.specs.declared.execution.Execution.{Execution}
use Rattle.drive_straight.proofs.Operands.{applied, leads_behind}
use Rattle.drive_straight.proofs.gathering.apply.Goals as goal

pub returns-then-is_call-clause-moves : goal.returns-then-is_call-clause-moves
returns-then-is_call-clause-moves c =
    let old = c.args.execution.now in
    let paid : Execution = record { budget = c.afford.new.budget; held = old.held; thread = old.thread; work = old.work } in
    leads_behind old paid c.call.new.execution (begins (it.Operands (Expression c.args.expr) c.args.values)) (begins (it.Apply c.args.expr c.args.values)) c.call.result
    (applied old paid c.args.expr c.args.values c.afford.new.budget c.requires.all (c.if-not-afford.ensures.paid refl) refl) c.call.ensures.moves

pub returns-in_ok-name-in-Some-clause-moves : goal.returns-in_ok-name-in-Some-clause-moves
returns-in_ok-name-in-Some-clause-moves c =
    let old = c.args.execution.now in
    let paid : Execution = record { budget = c.afford.new.budget; held = old.held; thread = old.thread; work = old.work } in
    leads_behind old paid c.member.new.execution (begins (it.Operands (Expression c.args.expr) c.args.values)) (begins (it.Apply c.args.expr c.args.values)) c.member.result
    (applied old paid c.args.expr c.args.values c.afford.new.budget c.requires.all (c.if-not-afford.ensures.paid refl) refl) c.member.ensures.moves

pub returns-in-None-clause-moves : goal.returns-in-None-clause-moves
returns-in-None-clause-moves c =
    applied c.args.execution.now (record { budget = c.afford.new.budget; held = c.args.execution.now.held; thread = c.args.execution.now.thread; work = c.args.execution.now.work })
    c.args.expr c.args.values c.afford.new.budget c.requires.all (c.if-not-afford.ensures.paid refl) refl
