use Rattle.std.proofs.Common.{◌≡◌, ◌-◌, ◌^◌}
use Rattle.drive_account.specs.View.{Stays}
use Rattle.drive_account.specs.Ending.{Holds}
use Rattle.drive_account.specs.At.{At}
use Rattle.drive_account.specs.Asking.{Asked, AllKept}
use Rattle.drive_straight.specs.Remains.{due}
use Rattle.py_run.specs.Starts.{started}
use Rattle.py_run.proofs.drive.run.Given as goal

abbrev pub invariant-turns : goal.invariant-turns
invariant-turns g l = record {
  stays : Stays (g.P.Port.view l.fn.port) (g.P.Port.view l.port);
  holds : Holds (g.P.Port.view l.port) l.execution.held;
  at : At (g.T.Tree.files l.fn.tree) (started l.fn.script l.fn.start) l.fn.fuel (g.P.Port.view l.port).mine l.execution.budget (due l.next l.execution);
  unfailed : g.T.Tree.faults l.tree ≡ g.T.Tree.faults l.fn.tree;
  asked : Asked (g.T.Tree.files l.fn.tree) (g.T.Tree.files l.tree) (g.T.Tree.faults l.fn.tree) (g.T.Tree.faults l.tree);
  kept : AllKept (g.T.Tree.lists l.fn.tree) (g.T.Tree.lists l.tree) (g.P.Port.view l.fn.port).mine (g.P.Port.view l.port).mine;
}

abbrev pub decreases-turns : goal.decreases-turns
decreases-turns g l = 2 ^ 64 - l.turns
