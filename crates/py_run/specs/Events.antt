-- What a turn does that makes an event.
use Rattle.std.specs.Prelude.{◌≤◌, Option, Result, IfOk, OnOk, OnErr, IsErrOf}
use Rattle.tree_files.specs.Files.{Files}
use Rattle.meaning_runs.specs.Lists.{lists_in}
use Rattle.meaning_runs.specs.Runs.{Run}
use Rattle.drive_account.specs.View.{View, Stays}
use Rattle.drive_account.specs.Ending.{Holds}
use Rattle.drive_account.specs.Asking.{Parted, Refused}
use Rattle.drive_account.specs.declared.port.Halt.{Halt}
use Rattle.drive_account.specs.declared.port.Halt.TheVariants as halts
use Rattle.drive_account.specs.declared.payments.Budget.{Budget}
use Rattle.drive_straight.specs.declared.execution.Execution.{Execution}
use Rattle.py_run.specs.Turns.{TurnedByEvent}
use Rattle.py_run.specs.declared.turns.Turn.{Turn}

-- the event that is due at `run` is made, and what comes of it is a turn
pub record MakesEvent {S A : Type 0} (old new : View S) (budget : Budget) (run : Run) (after : Execution) (turn : A → Turn) (result : Result A Halt) : Type 0 where
  -- the port is the same script's
  pub stays : Stays old new
  -- whatever script stood at the event stands where the turn leads
  pub turned : IfOk result (λ came. TurnedByEvent old.mine new.mine budget after run (turn came))
  -- the count of listings that the script's events keep does not fall
  pub grows : OnOk result (lists_in old.mine ≤ lists_in new.mine)
  -- what the script holds is known
  pub holds : OnOk result (Holds new after.held)
  -- at every `Err`, that of a refused event too, the script stands somewhere
  pub part : OnErr result ((files : Option Files) → Parted files old.mine new.mine budget run)
  -- only an event that is due is refused
  pub refused : IsErrOf result halts.Refused → (files : Option Files) → Refused new files old.mine budget run
