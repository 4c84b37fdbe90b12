use Rattle.std.proofs.Common.{refl, rules}
use Rattle.py_frames.specs.declared.work.Item.TheVariants as it
use Rattle.drive_straight.specs.Remains.{begins}
use Rattle.drive_straight.specs.declared.execution.Execution.{Execution}
use Rattle.drive_straight.proofs.Operands.{leads_behind, statement_begins}
use Rattle.drive_straight.proofs.blocks.begin_operands.Goals as goal

pub returns-clause-moves : goal.returns-clause-moves
returns-clause-moves c =
    let old = c.args.execution.now in
    let blocked : Execution = record { budget = c.afford.new.budget; held = old.held; thread = old.thread; work = c.push.new.self } in
    let ready : Execution = record { budget = c.afford.new.budget; held = old.held; thread = old.thread; work = c.push-2.new.self } in
    leads_behind old ready c.evaluate.new.execution (begins (it.Block c.args.stmts c.args.at)) (begins (it.Eval c.args.operand)) c.evaluate.result
    (statement_begins old blocked ready c.args.stmts c.args.at c.args.operand c.new-2.result c.afford.new.budget c.new-2.ensures c.requires.first (c.if-not-afford.ensures.paid refl) (search rules) (search rules)) c.evaluate.ensures.moves
