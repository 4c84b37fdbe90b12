-- From what a step wants to where a turn leads.
use Rattle.std.proofs.Common.{◌≡◌, ℕ, List, Option, refl, subst}
use Rattle.tree_files.specs.Files.{Files}
use Rattle.machine_events.specs.declared.event.Event.{Event}
use Rattle.machine_events.specs.declared.event.Reply.{Reply}
use Rattle.meaning_runs.specs.Runs.{Run}
use Rattle.meaning_state.specs.declared.flow.Flow.{Flow}
use Rattle.meaning_state.specs.declared.thread.State.{State}
use Rattle.meaning_script.specs.Meaning.{ends}
use Rattle.step_calls.specs.Sources.{sources}
use Rattle.py_frames.specs.Does.{rest}
use Rattle.py_frames.specs.declared.want.Want.TheVariants as want
use Rattle.drive_account.specs.At.{At, IsShort}
use Rattle.py_run.specs.Turns.{Stepped, remains}
use Rattle.drive_straight.specs.declared.execution.Execution.{Execution}
use Rattle.py_run.specs.declared.turns.Turn.TheVariants as turn
use Rattle.drive_account.specs.declared.payments.Budget.{Budget}

-- a payment could not be made
pub stepped_out : (budget : Budget) (after : Execution) (run : Run)
    → ((files : Option Files) (whole : Run) (fuel : ℕ) (mine : List (Event × Reply)) → At files whole fuel mine budget run → IsShort files whole fuel mine after.budget.left after.budget.of_tree)
    → Stepped budget after run turn.Out
stepped_out budget after run spent files faults mine = record {
  moves = λ whole fuel a. spent files whole fuel mine a;
  counts = refl;
}

-- no work is left
pub stepped_came : (budget : Budget) (c after : Execution) (flow : Flow) → after.budget ≡ budget → ((d : ℕ) (s : State) → rest sources c.work d flow s ≡ ends flow s)
    → Stepped budget after (remains c (want.Go flow)) (turn.Came flow)
stepped_came budget c after flow same comes files faults mine = record {
  moves = λ whole fuel a. rw same (subst (λ (run : Run). At files whole fuel mine budget run) (comes c.thread.left c.thread.state) a);
  counts = refl;
}
