use Rattle.std.proofs.Common.{◌≡◌, Result, ap, refl, subst, ◌∙◌}
use Rattle.base_types.specs.declared.no_memory.NoMemory.{NoMemory}
use Rattle.drive_straight.specs.Remains.{Leads, due}
use Rattle.drive_straight.specs.declared.execution.Execution.{Execution}
use Rattle.drive_straight.specs.declared.next.Next.{Next}
use Rattle.drive_straight.specs.declared.next.Next.TheVariants as nexts
use Rattle.py_run.proofs.InPlace.{known, led_by}
use Rattle.py_run.proofs.working.straight.Goals as goal
use Rattle.py_run.proofs.working.straight.Goals.{in-Went, in-Left, in-Evaluate, in-Block, in-Store+else-not-is_local_name, in_default}

pub turns-init : goal.turns-init
turns-init c = record {
  moves = λ files whole fuel mine a. a;
  held = refl;
}

pub returns-then-not-is_local_name-clause-moves : goal.returns-then-not-is_local_name-clause-moves
returns-then-not-is_local_name-clause-moves c =
    known c.args.execution.now c.turns.execution (due c.args.first) c.turns.next (nexts.Store c.in-Store.name c.in-Store.value) c.in-Store.is c.turns.invariant.moves

pub turns-preserved : goal.turns-preserved
turns-preserved c =
    let old = c.args.execution.now in
    let was = due c.args.first in
    let here : Execution = c.turns.execution in
    let came = c.turns.invariant.moves in
    let led : Leads old was c.match-next.execution c.match-next.after = elim c.match-next.branch [
      | in-Went w ↦
          led_by old here c.match-next.execution was (due (nexts.Went w.in-Went.value)) c.match-next.after w.came-after.result (known old here was c.turns.next (nexts.Went w.in-Went.value) w.in-Went.is came)
          w.after-is (rw w.execution-is w.came-after.ensures.moves)
      | in-Left w ↦
          led_by old here c.match-next.execution was (due (nexts.Left w.in-Left.way)) c.match-next.after w.left-after.result (known old here was c.turns.next (nexts.Left w.in-Left.way) w.in-Left.is came)
          w.after-is (rw w.execution-is w.left-after.ensures.moves)
      | in-Evaluate w ↦
          led_by old here c.match-next.execution was (due (nexts.Evaluate w.in-Evaluate.expr)) c.match-next.after w.evaluate-after.result (known old here was c.turns.next (nexts.Evaluate w.in-Evaluate.expr) w.in-Evaluate.is came)
          w.after-is (rw w.execution-is w.evaluate-after.ensures.moves)
      | in-Block w ↦
          led_by old here c.match-next.execution was (due (nexts.Block w.in-Block.stmts)) c.match-next.after w.block-after.result (known old here was c.turns.next (nexts.Block w.in-Block.stmts) w.in-Block.is came)
          w.after-is (rw w.execution-is w.block-after.ensures.moves)
      | in-Store+else-not-is_local_name w ↦
          led_by old here c.match-next.execution was (due (nexts.Store w.in-Store.name w.in-Store.value)) c.match-next.after w.piece_on-after.result (known old here was c.turns.next (nexts.Store w.in-Store.name w.in-Store.value) w.in-Store.is came)
          w.after-is (rw w.execution-is w.piece_on-after.ensures.moves)
      | in_default w ↦ led_by old here c.match-next.execution was (due c.turns.next) c.match-next.after w.piece_on-after-in_default.result came w.after-is (rw w.execution-is w.piece_on-after-in_default.ensures.moves)
    ] in
    let kept : c.match-next.execution.held ≡ here.held = elim c.match-next.branch [
      | in-Went w ↦ ap (λ (c : Execution). c.held) w.execution-is ∙ w.came-after.ensures.held
      | in-Left w ↦ ap (λ (c : Execution). c.held) w.execution-is ∙ w.left-after.ensures.held
      | in-Evaluate w ↦ ap (λ (c : Execution). c.held) w.execution-is ∙ w.evaluate-after.ensures.held
      | in-Block w ↦ ap (λ (c : Execution). c.held) w.execution-is ∙ w.block-after.ensures.held
      | in-Store+else-not-is_local_name w ↦ ap (λ (c : Execution). c.held) w.execution-is ∙ w.piece_on-after.ensures.held
      | in_default w ↦ ap (λ (c : Execution). c.held) w.execution-is ∙ w.piece_on-after-in_default.ensures.held
    ] in
    record {
      moves = subst (λ (r : Result Next NoMemory). Leads old was c.match-next.execution r) c.in-Ok.is led;
      held = kept ∙ c.turns.invariant.held;
    }
