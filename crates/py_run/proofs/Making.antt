-- What stands after an event was made, and what is held after a wait.
use Rattle.std.proofs.Common.{◌≡◌, ℕ, List, [], ◌∷◌, ◌++◌, Option, Some, Result, Ok, Err, OnErr, refl, ap, subst}
use Rattle.tree_files.specs.Files.{Files}
use Rattle.machine_events.specs.declared.event.Event.{Event}
use Rattle.machine_events.specs.declared.event.Event.TheVariants as e
use Rattle.machine_events.specs.declared.event.Reply.{Reply}
use Rattle.meaning_runs.specs.Runs.{Run, Makes, StandsIn}
use Rattle.meaning_runs.proofs.Stand.{in_some}
use Rattle.drive_account.specs.View.{View, Stays, Gains}
use Rattle.drive_account.specs.declared.held.Held.{Held}
use Rattle.drive_account.specs.Ending.{Holds}
use Rattle.drive_account.specs.At.{At}
use Rattle.drive_account.specs.declared.payments.Budget.{Budget}
use Rattle.drive_account.proofs.Holding.{holds_made}
use Rattle.drive_account.proofs.Making.{at_made}
use Rattle.drive_account.proofs.Staying.{stays_refl}
use Rattle.drive_account.specs.declared.port.Halt.{Halt}
use Rattle.drive_account.specs.declared.port.Halt.TheVariants as halts
use Rattle.drive_account.specs.Asking.{Parted}
use Rattle.drive_straight.specs.declared.execution.Execution.{Execution}
use Rattle.py_frames.specs.declared.replies.OnReply.{OnReply}
use Rattle.py_frames.specs.declared.want.Want.TheVariants as want
use Rattle.py_run.specs.Events.{MakesEvent}
use Rattle.py_run.specs.Turns.{TurnedByEvent, Stepped, made, remains}
use Rattle.py_run.specs.declared.turns.Turn.{Turn}

pub in_made : {files : Option Files} {whole : Run} {fuel : ℕ} (mine mine' : List (Event × Reply)) (budget : Budget) (event : Event) (reply : Reply) (next : Reply → Run)
    → mine' ≡ mine ++ (event, reply) ∷ [] → At files whole fuel mine budget (Makes event next) → StandsIn files whole fuel mine'
in_made mine mine' budget event reply next is at = in_some (at_made mine mine' budget event reply next is at).stands

-- who was woken holds what it held
pub holds_woken : {S : Type 0} (old new : View S) (reply : Reply) (held : Held) → Stays old new → Gains old new e.Wake reply → Holds old held → Holds new held
holds_woken old new reply held stays gains known = holds_made old new e.Wake reply held held stays gains known refl

-- an event was made, or not, and its reply is known
pub made_known : (mine mine' : List (Event × Reply)) (budget : Budget) (mid : Execution) (run : Run) (on : OnReply) (r r' : Option Reply) → r ≡ r' → TurnedByEvent mine mine' budget mid run (made on r) → TurnedByEvent mine mine' budget mid run (made on r')
made_known mine mine' budget mid run on r r' is was = subst (λ (r : Option Reply). TurnedByEvent mine mine' budget mid run (made on r)) is was

-- an event was made, and then a turn led on
pub made_on : (mine mine' : List (Event × Reply)) (budget : Budget) (mid new : Execution) (run : Run) (on : OnReply) (reply : Reply) (t : Turn) → TurnedByEvent mine mine' budget mid run (made on (Some reply))
    → Stepped mid.budget new (remains mid (want.Replied on reply)) t → TurnedByEvent mine mine' budget new run t
made_on mine mine' budget mid new run on reply t was led files faults = record {
  moves = λ whole fuel a. (led files faults mine').moves whole fuel ((was files faults).moves whole fuel a);
  counts = (led files faults mine').counts;
}

-- where memory is wanted behind an event, the script stands behind it
pub made_stands : {A B : Type 0} (r : Result A B) (mine mine' : List (Event × Reply)) (budget : Budget) (mid : Execution) (run : Run) (on : OnReply) (reply : Reply) → TurnedByEvent mine mine' budget mid run (made on (Some reply))
    → OnErr r ((files : Option Files) → Parted files mine mine' budget run)
made_stands (Ok a) mine mine' budget mid run on reply was = tt
made_stands (Err e) mine mine' budget mid run on reply was = λ files whole fuel a. in_some ((was files 0).moves whole fuel a).stands

pub stands_behind : {A B : Type 0} (r : Result A B) (mine mine' : List (Event × Reply)) (budget : Budget) (event : Event) (reply : Reply) (next : Reply → Run) → mine' ≡ mine ++ (event, reply) ∷ []
    → OnErr r ((files : Option Files) → Parted files mine mine' budget (Makes event next))
stands_behind (Ok a) mine mine' budget event reply next is = tt
stands_behind (Err e) mine mine' budget event reply next is = λ files whole fuel a. in_made mine mine' budget event reply next is a

-- where memory is wanted before anything is done
pub nothing_made : {S A : Type 0} (v : View S) (budget : Budget) (run : Run) (after : Execution) (turn : A → Turn) → MakesEvent v v budget run after turn (Err halts.NoMemory)
nothing_made v budget run after turn = record {
  stays = stays_refl v;
  turned = tt;
  grows = tt;
  holds = tt;
  part = λ files whole fuel a. in_some a.stands;
  refused = λ is. absurd (cc is);
}

-- where an event was not made, all that it was to lead to is not done either
pub not_made : {S A B : Type 0} {old new : View S} {budget : Budget} {run : Run} {mid after : Execution} {turn : A → Turn} {turn' : B → Turn} (halt : Halt)
    → MakesEvent old new budget run mid turn (Err halt) → MakesEvent old new budget run after turn' (Err halt)
not_made halt was = record {
  stays = was.stays;
  turned = tt;
  grows = tt;
  holds = tt;
  part = was.part;
  refused = λ is. let same : halt ≡ halts.Refused = cc in was.refused (ap Err same);
}
