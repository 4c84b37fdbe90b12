use Rattle.std.proofs.Common.{◌≡◌, ◌-◌, length}
use Rattle.py_frames.specs.declared.want.Want.TheVariants as want
use Rattle.py_frames.specs.declared.work.Item.TheVariants as it
use Rattle.drive_straight.specs.Remains.{Moves, remains}
use Rattle.drive_straight.proofs.blocks.block.Given as goal

abbrev pub invariant-statements : goal.invariant-statements
invariant-statements l = record {
  moves : Moves l.fn.execution.budget (remains l.fn.execution (want.Then (it.Block l.fn.stmts l.fn.first))) l.execution (want.Then (it.Block l.fn.stmts l.at));
  held : l.execution.held ≡ l.fn.execution.held;
  block : l.stmts ≡ l.fn.stmts;
}

abbrev pub decreases-statements : goal.decreases-statements
decreases-statements l = length l.stmts - l.at
