use Rattle.std.proofs.Common.{◌-◌, arith, refl, rules}
use Rattle.py_frames.specs.declared.work.Item.TheVariants as it
use Rattle.drive_straight.specs.Remains.{begins}
use Rattle.drive_straight.specs.declared.execution.Execution.{Execution}
use Rattle.drive_straight.proofs.Operands.{leads_behind, test_begins}
use Rattle.drive_straight.proofs.loops.begin_test.Goals as goal

pub returns-clause-moves : goal.returns-clause-moves
returns-clause-moves c =
    let old = c.args.execution.now in
    let ready : Execution = record { budget = c.afford.new.budget; held = old.held; thread = old.thread; work = c.push.new.self } in
    leads_behind old ready c.take.new.execution (begins (it.Turn c.args.test c.args.body c.args.turns)) (begins (it.Eval c.in_ok-expr.expr)) c.take.result
    (test_begins old ready c.args.test c.in_ok-expr.expr c.args.body (c.args.turns - 1) c.args.turns c.afford.new.budget
    (omega (arith, c.requires.some)) (search rules) (c.if-not-afford.ensures.paid refl) (search rules)) c.take.ensures.moves
