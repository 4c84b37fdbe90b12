use Rattle.std.proofs.Common.{◌-◌, List, refl, rules, arith, subst}
use Rattle.std.proofs.lemmas.Result.{IfOk-weaker}
use Rattle.py_frames.specs.declared.want.Want.TheVariants as want
use Rattle.py_frames.specs.declared.work.Item.TheVariants as it
use Rattle.drive_straight.specs.Remains.{Leads, begins, due, remains}
use Rattle.py_syntax.specs.declared.stmt.Stmt.{Stmt}
use Rattle.drive_straight.specs.declared.execution.Execution.{Execution}
use Rattle.drive_straight.proofs.AtOnce.{loop_over, loop_turns, moves_on}
use Rattle.drive_straight.proofs.loops.turn.Goals as goal

pub returns-then-not-holds-clause-moves : goal.returns-then-not-holds-clause-moves
returns-then-not-holds-clause-moves c =
    loop_over c.args.execution.now (record { budget = c.afford.new.budget; held = c.args.execution.now.held; thread = c.args.execution.now.thread; work = c.args.execution.now.work })
    c.args.test c.args.body (c.args.turns - 1) c.args.turns c.in-Value.value c.in-Value.units c.afford.new.budget
    (omega (arith, c.if-turns-eq0.false)) (search rules) (search rules) (search rules) (c.if-not-afford.ensures.paid refl) refl

pub returns-in_ok-push-in-Value-clause-moves : goal.returns-in_ok-push-in-Value-clause-moves
returns-in_ok-push-in-Value-clause-moves c =
    let old = c.args.execution.now in
    let wanted = want.Then (it.Turn c.args.test c.args.body c.args.turns) in
    let paid : Execution = record { budget = c.afford.new.budget; held = old.held; thread = old.thread; work = c.push.new.self } in
    IfOk-weaker c.block.result _ _ (λ next behind.
    moves_on old.budget (remains old wanted) paid c.block.new.execution (want.Then (it.Block c.args.body 0)) (due next c.block.new.execution)
    (loop_turns old paid c.args.test c.args.body (c.args.turns - 1) c.args.turns c.in-Value.value c.in-Value.units c.afford.new.budget
    (omega (arith, c.if-turns-eq0.false)) (search rules) (search rules) (search rules) (c.if-not-afford.ensures.paid refl) (search rules)) behind)
    (subst (λ (body : List Stmt). Leads paid (begins (it.Block body 0)) c.block.new.execution c.block.result) c.in_ok-stmts-in-Value.ensures c.block.ensures.moves)
