-- Where a script stands that is followed over a recorded list.
use Rattle.std.specs.Prelude.{◌≡◌, ℕ, List, Bool, take, Some, Result, Ok, Err}
use Rattle.tree_files.specs.Files.{Files}
use Rattle.machine_events.specs.declared.event.Pair.{Pair}
use Rattle.machine_events.specs.declared.event.Follow.{Follow}
use Rattle.machine_events.specs.declared.event.Follow.TheVariants as ways
use Rattle.machine_shown.specs.Shown.{shown_first, shown}
use Rattle.meaning_runs.specs.Runs.{Run, Reaches, spend, gives_up, Safe}
use Rattle.drive_account.specs.Replay.{pairs_of, Met}
use Rattle.drive_account.specs.declared.port.Halt.{Halt}
use Rattle.drive_account.specs.declared.port.Halt.TheVariants as halts
use Rattle.drive_account.specs.declared.end.Ending.{Ending}
use Rattle.drive_account.specs.Following.{budget_by, part_of, answer_behind}

-- so many pairs of the list are those that the run makes with the budget of the list, and this rest of it is left
pub record IsAt (files : Files) (t : ℕ) (run : Run) (fuel budget : ℕ) (own : List Pair) (at : ℕ) (rest : Run) : Type 0 where
  pub safe : Safe (shown_first t) run
  pub met : Met own at
  pub budget_is : budget ≡ budget_by fuel (pairs_of own)
  pub reaches : Reaches (Some files) (spend budget (shown_first t) run) 0 (pairs_of (take at own)) rest

-- all that the script holds there is still to be given up
abbrev pub IsGiving : Files → ℕ → Run → ℕ → ℕ → List Pair → ℕ → Bool → Type 0
IsGiving files t run fuel budget own at of_tree =
    IsAt files t run fuel budget own at (gives_up of_tree (shown t (pairs_of (take at own))).held)

-- the answer, by whether the End was made or what came in its way; want of memory has none
abbrev pub Told : Result Ending Halt → Bool → ℕ → ℕ → Follow → Type 0
Told (Ok ending) misfit at count it = it ≡ answer_behind at count
Told (Err halts.Refused) misfit at count it = it ≡ ways.Parts (part_of misfit at)
Told (Err halts.NoMemory) misfit at count it = ⊥
