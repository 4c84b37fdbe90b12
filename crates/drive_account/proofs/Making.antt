-- Events that are made, refused or not reached.
use Rattle.std.proofs.Common.{◌≡◌, ℕ, List, [], ◌∷◌, ◌++◌, Option, None}
use Rattle.tree_files.specs.Files.{Files}
use Rattle.machine_events.specs.declared.event.Event.{Event}
use Rattle.machine_events.specs.declared.event.Reply.{Reply}
use Rattle.meaning_runs.specs.Runs.{Run, Makes, StandsIn}
use Rattle.meaning_runs.proofs.Stand.{stands_made, in_some}
use Rattle.drive_account.specs.View.{View}
use Rattle.drive_account.specs.At.{At}
use Rattle.drive_account.specs.Asking.{RefusedAt}
use Rattle.drive_account.specs.declared.payments.Budget.{Budget}

-- after an event no call of the tree can fail before the next payment for one
pub at_made : {files : Option Files} {whole : Run} {fuel : ℕ} (mine mine' : List (Event × Reply)) (budget : Budget) (event : Event) (reply : Reply) (next : Reply → Run)
    → mine' ≡ mine ++ (event, reply) ∷ [] → At files whole fuel mine budget (Makes event next)
    → At files whole fuel mine' (record { left = budget.left; read = None; of_tree = budget.of_tree }) (next reply)
at_made mine mine' budget event reply next is at = record { stands = stands_made is at.stands; unread = tt }

-- whatever script stands here stands somewhere, also after an event
pub in_at : {files : Option Files} {whole : Run} {fuel : ℕ} (mine mine' : List (Event × Reply)) (budget : Budget) (run : Run) → mine' ≡ mine → At files whole fuel mine budget run → StandsIn files whole fuel mine'
in_at mine mine' budget run same at = rw same (in_some at.stands)

-- the port refused the event that is due
pub refused_here : {S : Type 0} (v : View S) (files : Option Files) (whole : Run) (fuel : ℕ) (mine : List (Event × Reply)) (budget : Budget) (event : Event) (next : Reply → Run)
    → v.refuses event → v.mine ≡ mine → At files whole fuel mine budget (Makes event next) → RefusedAt v files whole fuel
refused_here v files whole fuel mine budget event next refuses same at = (event, budget.left, next, refuses, rw same at.stands)
