-- A script from its start until its work is over.
use Rattle.std.specs.Prelude.{◌≡◌, ℕ, List, [], Option}
use Rattle.tree_files.specs.Files.{Files}
use Rattle.tree_files.specs.Count.{Rose}
use Rattle.machine_events.specs.declared.event.Event.{Event}
use Rattle.machine_events.specs.declared.event.Reply.{Reply}
use Rattle.meaning_runs.specs.Runs.{Run, Stands, IsUnread}
use Rattle.drive_account.specs.View.{View}
use Rattle.drive_account.specs.At.{IsShort}
use Rattle.py_run.specs.Turns.{ended}
pub use Rattle.drive_straight.specs.Remains.{Fresh}
use Rattle.py_run.specs.declared.drive.Over.{Over}
use Rattle.py_run.specs.declared.drive.Over.TheVariants as over

-- the script of this number may begin: its turn has come, and it has made no event
pub record Begun {S : Type 0} (v : View S) (script : ℕ) : Type 0 where
  pub number : v.number ≡ script
  pub ready : v.ready
  pub first : v.mine ≡ []

-- how a run is over: it ended; it is spent, at a payment that was one for a call of the tree or not; or it
-- could not read, with this budget before the payment, and the tree's count of faults rose
abbrev pub Overs : Option Files → ℕ → ℕ → Run → ℕ → List (Event × Reply) → Over → Type 0
Overs files faults faults' whole fuel mine (over.Came flow) = (budget : ℕ) × Stands files whole fuel mine budget (ended flow)
Overs files faults faults' whole fuel mine (over.Out of_tree) = (budget : ℕ) × IsShort files whole fuel mine budget of_tree
Overs files faults faults' whole fuel mine (over.Unread left) = IsUnread files whole fuel mine left × Rose faults faults'

-- where it is over in any other way, no call of the tree failed: its count is as it was
abbrev pub IsUnfailed : ℕ → ℕ → Over → Type 0
IsUnfailed faults faults' (over.Unread left) = Unit {0}
IsUnfailed faults faults' it = faults' ≡ faults
