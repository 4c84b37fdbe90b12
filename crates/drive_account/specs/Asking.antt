-- What was asked of a tree, and where a script stands that is broken off or refused.
use Rattle.std.specs.Prelude.{◌≡◌, ◌≤◌, ℕ, ◌+◌, List, Option}
use Rattle.tree_files.specs.Files.{Files}
use Rattle.machine_events.specs.declared.event.Event.{Event}
use Rattle.machine_events.specs.declared.event.Reply.{Reply}
use Rattle.meaning_runs.specs.Lists.{lists_in}
use Rattle.meaning_runs.specs.Runs.{Run, Makes, Stands, StandsIn}
use Rattle.drive_account.specs.View.{View}
use Rattle.drive_account.specs.At.{At}
use Rattle.drive_account.specs.declared.payments.Budget.{Budget}

-- a tree is as it was, but that its count of faults may have risen
pub record Asked (told told' : Option Files) (failed failed' : ℕ) : Type 0 where
  pub files : told' ≡ told
  pub faults : failed ≤ failed'

-- a tree that has listed directories has done so at most once for each listing that the events between keep
abbrev pub AllKept : ℕ → ℕ → List (Event × Reply) → List (Event × Reply) → Type 0
AllKept listed listed' mine mine' = listed' + lists_in mine ≤ listed + lists_in mine'

-- where a turn is broken off, whatever script stood at `run` stands somewhere
abbrev pub Parted : Option Files → List (Event × Reply) → List (Event × Reply) → Budget → Run → Type 0
Parted files mine mine' budget run = (whole : Run) (fuel : ℕ) → At files whole fuel mine budget run → StandsIn files whole fuel mine'

-- the port refused the event that is due
abbrev pub RefusedAt : {S : Type 0} → View S → Option Files → Run → ℕ → Type 0
RefusedAt v files whole fuel = (event : Event) × (budget : ℕ) × (next : Reply → Run) × v.refuses event × Stands files whole fuel v.mine budget (Makes event next)

-- whatever script stood at `run` stands at an event that the port refused
abbrev pub Refused : {S : Type 0} → View S → Option Files → List (Event × Reply) → Budget → Run → Type 0
Refused v files mine budget run = (whole : Run) (fuel : ℕ) → At files whole fuel mine budget run → RefusedAt v files whole fuel
