use Rattle.std.proofs.Common.{refl, rules, subst, sym}
use Rattle.meaning_script.specs.Operators.{operands_at}
use Rattle.py_syntax.specs.declared.expr.Expr.{out-Expr}
use Rattle.py_frames.specs.declared.want.Want.TheVariants as want
use Rattle.py_frames.specs.declared.work.Form.TheVariants.{Expression}
use Rattle.py_frames.specs.declared.work.Item.{Item}
use Rattle.py_frames.specs.declared.work.Item.TheVariants as it
use Rattle.drive_account.specs.At.{At}
use Rattle.drive_account.specs.declared.payments.Budget.{Budget}
use Rattle.drive_straight.specs.Remains.{begins, remains}
use Rattle.drive_straight.specs.declared.execution.Execution.{Execution}
use Rattle.drive_straight.proofs.Operands.{fewer_left, leads_behind, operand_paid, operand_waits, reaches_on, same_run}
use Rattle.drive_straight.proofs.gathering.gather.Goals as goal

pub returns-in-None-clause-moves : goal.returns-in-None-clause-moves
returns-in-None-clause-moves c =
    let old = c.args.execution.now in
    let here : Execution = c.operands.execution in
    let mid : Execution = record { budget = here.budget; held = here.held; thread = here.thread; work = c.push.new.self } in
    let first = it.Operands (Expression c.args.expr) c.args.done in
    let left = it.Operands (Expression c.args.expr) c.operands.values in
    let operand = it.Eval c.in_ok-operand-in-None.operand in
    leads_behind old mid c.reach.new.execution (begins first) (begins operand) c.reach.result
    (reaches_on old.budget here.budget here.budget (begins first old) (begins left here) (begins operand mid) c.operands.invariant.moves
    (same_run here.budget _ _ (operand_waits here mid c.args.expr c.in_ok-operand-in-None.operand c.operands.values (search rules) (search rules)))) c.reach.ensures.moves

pub returns-then-not-afford-clause-moves : goal.returns-then-not-afford-clause-moves
returns-then-not-afford-clause-moves c = λ files whole fuel mine a.
    let here : Execution = c.operands.execution in
    subst (λ (item : Item). At files whole fuel mine c.afford.new.budget (remains here (want.Then item))) (sym c.in_ok-new-in-Some-2.ensures)
    (subst (λ (p : Budget). At files whole fuel mine p (remains here (want.Then (it.Operands (Expression c.args.expr) c.operands.values)))) (sym (c.if-not-afford.ensures.unpaid refl))
    (c.operands.invariant.moves files whole fuel mine a))

pub operands-smaller : goal.operands-smaller
operands-smaller c =
    fewer_left (operands_at (out-Expr c.args.expr)) c.operands.values c.push-in-Some-2.new.self c.in-Some-2.bought.value c.in-Some.operand.now (search rules) (search rules)

pub operands-preserved : goal.operands-preserved
operands-preserved c =
    let here : Execution = c.operands.execution in
    let paid : Execution = record { budget = c.afford.new.budget; held = here.held; thread = here.thread; work = here.work } in
    record {
      moves = λ files whole fuel mine a.
          operand_paid here paid c.args.expr c.in-Some.operand.now c.operands.values c.push-in-Some-2.new.self c.in-Some-2.bought.value c.in-Some-2.bought.units c.afford.new.budget
          (search rules) (search rules) (c.if-not-afford.ensures.paid refl) (search rules) refl files whole fuel mine (c.operands.invariant.moves files whole fuel mine a);
      held = c.operands.invariant.held;
      expr = refl;
    }

pub returns-clause-moves : goal.returns-clause-moves
returns-clause-moves c =
    leads_behind c.args.execution.now c.operands.execution c.apply.new.execution (begins (it.Operands (Expression c.args.expr) c.args.done)) (begins (it.Operands (Expression c.args.expr) c.operands.values)) c.apply.result
    c.operands.invariant.moves c.apply.ensures.moves
