use Rattle.std.proofs.Common.{◌≡◌, ◌-◌, length}
use Rattle.meaning_script.specs.Operators.{operands_at}
use Rattle.py_syntax.specs.declared.expr.Expr.{out-Expr}
use Rattle.py_frames.specs.declared.work.Form.TheVariants.{Expression}
use Rattle.py_frames.specs.declared.want.Want.TheVariants as want
use Rattle.py_frames.specs.declared.work.Item.TheVariants as it
use Rattle.drive_straight.specs.Remains.{Moves, remains}
use Rattle.drive_straight.proofs.gathering.gather.Given as goal

abbrev pub invariant-operands : goal.invariant-operands
invariant-operands l = record {
  moves : Moves l.fn.execution.budget (remains l.fn.execution (want.Then (it.Operands (Expression l.fn.expr) l.fn.done))) l.execution (want.Then (it.Operands (Expression l.expr) l.values));
  held : l.execution.held ≡ l.fn.execution.held;
  expr : l.expr ≡ l.fn.expr;
}

abbrev pub decreases-operands : goal.decreases-operands
decreases-operands l = length (operands_at (out-Expr l.expr)) - length l.values
