-- What a turn does over a tree.
use Rattle.std.specs.Prelude.{◌≡◌, ℕ, Option, Result, IfOk, OnOk, OnErr, IsErrOf}
use Rattle.tree_files.specs.Files.{Files}
use Rattle.meaning_runs.specs.Runs.{Run}
use Rattle.drive_account.specs.View.{View, Stays}
use Rattle.drive_account.specs.Ending.{Holds}
use Rattle.drive_account.specs.Asking.{Parted, Refused, Asked, AllKept}
use Rattle.drive_account.specs.declared.port.Halt.{Halt}
use Rattle.drive_account.specs.declared.port.Halt.TheVariants as halts
use Rattle.drive_account.specs.declared.payments.Budget.{Budget}
use Rattle.drive_straight.specs.declared.execution.Execution.{Execution}
use Rattle.py_run.specs.Turns.{Turned, Looked}
use Rattle.py_run.specs.declared.turns.Turn.{Turn}

-- what is due at `run` is given, at a port and over a tree, and what comes of it is a turn
pub record GivesDue {S : Type 0} (old new : View S) (files files' : Option Files) (faults faults' listed listed' : ℕ) (budget : Budget) (run : Run) (after : Execution) (result : Result Turn Halt) : Type 0 where
  -- the port is the same script's
  pub stays : Stays old new
  -- whatever script stood at `run` stands where the turn leads
  pub turned : IfOk result (Turned files faults faults' old.mine new.mine budget after run)
  -- a directory is listed at most once for each listing that is kept
  pub kept : OnOk result (AllKept listed listed' old.mine new.mine)
  -- what the script holds is known
  pub holds : OnOk result (Holds new after.held)
  -- at every `Err`, that of a refused event too, the script stands somewhere
  pub part : OnErr result (Parted files old.mine new.mine budget run)
  -- only an event that is due is refused
  pub refused : IsErrOf result halts.Refused → Refused new files old.mine budget run
  -- the tree is as it was, but that its count of faults may have risen
  pub asked : Asked files files' faults faults'

-- what is due at `run` is looked up in a tree, and what comes of it is a turn
pub record LooksUp (files files' : Option Files) (faults faults' listed listed' : ℕ) (old : Execution) (run : Run) (after : Execution) (result : Result Turn Halt) : Type 0 where
  -- whatever script stood at `run` stands where the turn leads
  pub turned : IfOk result (Looked files faults faults' old.budget after run)
  -- the script holds what it held
  pub held : after.held ≡ old.held
  -- no event is made, so none is refused
  pub refused : IsErrOf result halts.Refused → ⊥
  -- the tree is as it was, but that its count of faults may have risen
  pub asked : Asked files files' faults faults'
  -- no directory is listed
  pub lists_stay : listed' ≡ listed
