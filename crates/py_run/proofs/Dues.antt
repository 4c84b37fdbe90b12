-- A turn over a tree, from what it did at the port or in the tree alone.
use Rattle.std.proofs.Common.{ℕ, Option, Result, IfOk, IsErrOf, OnOk, Ok, Err, arith}
use Rattle.std.proofs.lemmas.Result.{IfOk-weaker}
use Rattle.tree_files.specs.Files.{Files}
use Rattle.meaning_runs.specs.Runs.{Run}
use Rattle.drive_account.specs.View.{View}
use Rattle.drive_account.specs.Ending.{Holds}
use Rattle.drive_account.specs.declared.port.Halt.{Halt}
use Rattle.drive_account.specs.declared.port.Halt.TheVariants as halts
use Rattle.drive_account.specs.declared.payments.Budget.{Budget}
use Rattle.drive_account.proofs.Asking.{asked_refl, kept_refl}
use Rattle.drive_account.proofs.Results.{on_err_then}
use Rattle.drive_account.proofs.Staying.{stays_refl}
use Rattle.drive_straight.specs.declared.execution.Execution.{Execution}
use Rattle.py_run.specs.Events.{MakesEvent}
use Rattle.py_run.specs.Trees.{GivesDue, LooksUp}
use Rattle.py_run.specs.Turns.{Stepped}
use Rattle.py_run.specs.declared.turns.Turn.{Turn}
use Rattle.py_run.proofs.Results.{if_ok, if_err}
use Rattle.py_run.proofs.Turning.{parted_here}

on_ok_then : {T E : Type 0} {P Q : Type 0} (r : Result T E) → OnOk r P → (P → Q) → OnOk r Q
on_ok_then (Ok x) p f = f p
on_ok_then (Err e) p f = tt

-- it made an event and asked no tree
pub event_due : {S : Type 0} (old new : View S) (files : Option Files) (faults listed : ℕ) (budget : Budget) (run : Run) (after : Execution) (result : Result Turn Halt)
    → MakesEvent old new budget run after (λ turn. turn) result → GivesDue old new files files faults faults listed listed budget run after result
event_due old new files faults listed budget run after result made = record {
  stays = made.stays;
  turned = IfOk-weaker result _ _ (λ t turned. turned files faults) made.turned;
  kept = on_ok_then result made.grows (λ grows. omega (arith, grows));
  holds = made.holds;
  part = on_err_then result made.part (λ parted. parted files);
  refused = λ is. made.refused is files;
  asked = asked_refl files faults;
}

-- it made no event and asked no tree
pub step_due : {S : Type 0} (v : View S) (files : Option Files) (faults listed : ℕ) (budget : Budget) (run : Run) (after : Execution) (result : Result Turn Halt)
    → IfOk result (Stepped budget after run) → Holds v after.held → (IsErrOf result halts.Refused → ⊥) → GivesDue v v files files faults faults listed listed budget run after result
step_due v files faults listed budget run after result stepped holds refused = record {
  stays = stays_refl v;
  turned = IfOk-weaker result _ _ (λ t step. step files faults v.mine) stepped;
  kept = if_ok result (λ _. kept_refl listed v.mine);
  holds = if_ok result (λ _. holds);
  part = if_err result (λ _. parted_here budget run);
  refused = λ is. absurd (refused is);
  asked = asked_refl files faults;
}

-- it made no event and asked a tree
pub look_due : {S : Type 0} (v : View S) (files files' : Option Files) (faults faults' listed listed' : ℕ) (old : Execution) (run : Run) (after : Execution) (result : Result Turn Halt)
    → LooksUp files files' faults faults' listed listed' old run after result → Holds v old.held → GivesDue v v files files' faults faults' listed listed' old.budget run after result
look_due v files files' faults faults' listed listed' old run after result looks holds = record {
  stays = stays_refl v;
  turned = IfOk-weaker result _ _ (λ t looked. looked v.mine) looks.turned;
  kept = if_ok result (λ _. omega (arith, looks.lists_stay));
  holds = if_ok result (λ _. rw looks.held holds);
  part = if_err result (λ _. parted_here old.budget run);
  refused = λ is. absurd (looks.refused is);
  asked = looks.asked;
}
