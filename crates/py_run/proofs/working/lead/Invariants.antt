use Rattle.std.proofs.Common.{◌≡◌, ◌-◌, ◌^◌}
use Rattle.drive_straight.specs.Remains.{Moves, remains}
use Rattle.py_run.proofs.working.lead.Given as goal

abbrev pub invariant-pieces : goal.invariant-pieces
invariant-pieces l = record {
  moves : Moves l.fn.execution.budget (remains l.fn.execution l.fn.first) l.execution l.want;
  held : l.execution.held ≡ l.fn.execution.held;
}

abbrev pub decreases-pieces : goal.decreases-pieces
decreases-pieces l = 2 ^ 64 - l.pieces
