-- What the run of one script leaves as its history.
use Rattle.std.specs.Prelude.{◌≡◌, ℕ, ◌+◌, List, [], ◌∷◌, ◌++◌, Option, Some, None, length}
use Rattle.tree_files.specs.Files.{Files}
use Rattle.tree_files.specs.Count.{Rose}
use Rattle.machine_events.specs.declared.event.Entry.{Entry}
use Rattle.machine_spec.specs.declared.state.State.{State}
use Rattle.machine_spec.specs.Opening.{opening}
use Rattle.machine_shown.specs.Shown.{shown_first}
use Rattle.meaning_runs.specs.Runs.{Run, Safe}
use Rattle.meaning_solo.specs.Made.{Turn}
use Rattle.meaning_solo.specs.Solo.{IsSolo}
use Rattle.import_words.specs.declared.plan.RunPlan.{RunPlan}
use Rattle.program_run.specs.Statuses.{want_of_memory}

-- what texts mean, each as the script of a number
abbrev pub Means : Type 0
Means = ℕ → List ℕ → Run

-- the events of the script of a number show all that it asks for, whatever its text is
abbrev pub AreSafe : Means → Type 0
AreSafe means = (t : ℕ) (text : List ℕ) → Safe (shown_first t) (means t text)

-- the state before the first event, from the plan and the texts: all scripts are of one round
abbrev pub opening_of : RunPlan → List (List ℕ) → State
opening_of plan texts = opening plan.scripts texts plan.path (length plan.scripts ∷ [])

-- a stop has a cause: the tree's count of faults rose
abbrev pub HasCause : Option ℕ → ℕ → ℕ → Type 0
HasCause None old new = Unit {0}
HasCause (Some k) old new = Rose old new

-- the turn of a script over these files
abbrev pub turn_of : Files → Run → Option ℕ → Turn
turn_of files run stop = record { files = files; run = run; stop = stop }

-- what scripts of a call run under: their files and the fuel of each, the
-- tree's count of faults before and after, and the status of the call
pub record Setting : Type 0 where
  pub files : Files
  pub fuel : ℕ
  pub old_faults : ℕ
  pub new_faults : ℕ
  pub status : ℕ

-- the fuel is that of each script, and `old` and `new` are the faults that the tree counted before and after
abbrev pub setting : Files → ℕ → ℕ → ℕ → ℕ → Setting
setting files fuel old new status =
    record { files = files; fuel = fuel; old_faults = old; new_faults = new; status = status }

-- the history of one script over these files: the one that it has alone, with a stop
-- only where a call of the tree failed; at want of memory a beginning of such a one
pub data IsRun (under : Setting) (opened : State) (run : Run) (history : List Entry) : Type 0 where
  whole : (stop : Option ℕ) → IsSolo opened (turn_of under.files run stop ∷ []) under.fuel history
      → HasCause stop under.old_faults under.new_faults → IsRun under opened run history
  part : (stop : Option ℕ) (rest : List Entry) → under.status ≡ want_of_memory
      → IsSolo opened (turn_of under.files run stop ∷ []) under.fuel (history ++ rest)
      → HasCause stop under.old_faults under.new_faults → IsRun under opened run history

-- the turns of scripts, of which the first has the number t, by their files and texts, where no call of the tree fails
abbrev pub turns_of : Means → ℕ → List (Files × List ℕ) → List Turn
turns_of means t [] = []
turns_of means t (script ∷ scripts) = turn_of script.0 (means t script.1) None ∷ turns_of means (t + 1) scripts
