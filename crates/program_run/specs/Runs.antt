-- What a run leaves: its history, and what both sinks have got.
use Rattle.std.specs.Prelude.{◌≡◌, ◌≤◌, ℕ, List, [], ◌∷◌, IfSome, MatchOption, length, replicate}
use Rattle.machine_events.specs.declared.event.Entry.{Entry}
use Rattle.machine_spec.specs.Legal.{IsLegal}
use Rattle.import_words.specs.declared.plan.RunPlan.{RunPlan}
use Rattle.program_run.specs.Statuses.{sink_fault, want_of_memory}
use Rattle.program_run.specs.Prints.{out_text}
use Rattle.program_run.specs.Ends.{err_text, status_of}
use Rattle.program_run.specs.Sinks.{Moment, Leaves, status_by}
use Rattle.program_run.specs.Counts.{reads_of, ReadsBy, ListsBy}
use Rattle.program_run.specs.Alone.{Means, Setting, setting, opening_of, IsRun}
use Rattle.program_run.specs.Results.{EachHasEnd}
use Rattle.program_run.specs.Together.{terms, AllActOn, AllAct}
use Rattle.program_run.specs.declared.report.Left.{Left}

-- the scripts of these texts over these files: one has the
-- history that it has alone; of several, each acts by its meaning
abbrev pub RunOver : Means → Setting → RunPlan → List (List ℕ) → List Entry → Type 0
RunOver means under plan (text ∷ []) history = IsRun under (opening_of plan (text ∷ [])) (means 0 text) history
RunOver means under plan texts history = AllAct means under 0 texts history

-- a run that is over: its history and its status
pub record Finished : Type 0 where
  pub history : List Entry
  pub status : ℕ

-- a history, with the status that the run had
abbrev pub finished : List Entry → ℕ → Finished
finished history status = record { history = history; status = status }

-- the scripts of a plan with these texts were run, from one moment to a later one
pub record HasRun (means : Means) (plan : RunPlan) (texts : List (List ℕ)) (old new : Moment) (ran : Finished)
    : Type 0 where
  -- the machine allows the history
  pub legal : IsLegal (opening_of plan texts) ran.history
  -- where the tree tells its files, the scripts' own events are those that they mean
  pub runs : IfSome old.files
      (λ files. RunOver means (setting files plan.fuel old.faults new.faults ran.status) plan texts ran.history)
  -- whatever the tree tells, as a real folder tells nothing, they are those that they mean on some answers of it
  pub acts : AllActOn means (terms plan.fuel old.faults new.faults ran.status) 0
      (replicate (length texts) old.files) texts ran.history
  -- no more scripts ended by a failed call of the tree than there were such calls
  pub reads : ReadsBy (length plan.scripts) ran.history old.faults new.faults
  -- and where none did, and memory was not wanted, none failed
  pub unfailed : (ran.status ≡ want_of_memory → ⊥) → reads_of (length plan.scripts) ran.history ≡ 0
      → new.faults ≤ old.faults
  pub lists : ListsBy (length plan.scripts) ran.history old.lists new.lists
  -- unless memory was wanted, each script came to its End, whatever the tree tells
  pub ends : (ran.status ≡ want_of_memory → ⊥) → EachHasEnd 0 (length plan.scripts) ran.history
  -- what was written, and the status
  pub leaves : Leaves (status_by (status_of (length plan.scripts) ran.history) sink_fault)
      (out_text plan.trace ran.history) (err_text plan.scripts ran.history) old new ran.status

-- memory was wanted before a history was begun, and nothing has changed; or the scripts were run
abbrev pub Gives : Means → RunPlan → List (List ℕ) → Moment → Moment → Left → Type 0
Gives means plan texts old new left = MatchOption left.history ((left.status ≡ want_of_memory) × (new ≡ old))
    (λ history. HasRun means plan texts old new (finished history left.status))
