use Rattle.std.proofs.Common.{◌≡◌, ◌-◌, ◌^◌}
use Rattle.drive_straight.specs.Remains.{LeadsTo, due}
use Rattle.py_run.proofs.working.straight.Given as goal

abbrev pub invariant-turns : goal.invariant-turns
invariant-turns l = record {
  moves : LeadsTo l.fn.execution (due l.fn.first) l.execution l.next;
  held : l.execution.held ≡ l.fn.execution.held;
}

abbrev pub decreases-turns : goal.decreases-turns
decreases-turns l = 2 ^ 64 - l.turns
