use Rattle.std.proofs.Common.{◌≤◌, length}
use Rattle.meaning_runs.specs.Lists.{lists_in}
use Rattle.drive_account.specs.View.{Stays}
use Rattle.drive_account.specs.Holds.{held_in}
use Rattle.drive_account.specs.Ending.{Idle, Gave}
use Rattle.drive_account.proofs.end.give_up.Given as goal

abbrev pub invariant-loop-hold : goal.invariant-loop-hold
invariant-loop-hold g l = record {
  stays : Stays (g.P.Port.view l.fn.port) (g.P.Port.view l.port);
  idle : Idle (g.P.Port.view l.port) l.held;
  gave : Gave (g.P.Port.view l.fn.port).number (g.P.Port.view l.fn.port).mine (g.P.Port.view l.port).mine;
  grows : lists_in (g.P.Port.view l.fn.port).mine ≤ lists_in (g.P.Port.view l.port).mine;
}

abbrev pub decreases-loop-hold : goal.decreases-loop-hold
decreases-loop-hold g l = length (held_in l.held)
