-- What a call leaves that runs a made workload.
use Rattle.std.specs.Prelude.{◌≡◌, ◌⊎◌, ℕ, false, List, [], ◌∷◌, None, MatchOption}
use Rattle.machine_events.specs.declared.event.Entry.{Entry}
use Rattle.machine_spec.specs.declared.state.State.{State}
use Rattle.machine_spec.specs.Legal.{IsLegal}
use Rattle.machine_desk.specs.declared.outlet.Flow.{Flow}
use Rattle.machine_desk.specs.declared.outlet.Flow.TheVariants.{Open, Failed, Short}
use Rattle.import_words.specs.Words.{Word}
use Rattle.import_words.specs.declared.plan.RunPlan.{RunPlan}
use Rattle.program_run.specs.Alone.{Means, setting, opening_of}
use Rattle.program_run.specs.Counts.{reads_of}
use Rattle.program_run.specs.Ends.{err_text, status_of}
use Rattle.program_run.specs.Runs.{Finished, finished, RunOver}
use Rattle.program_run.specs.Sinks.{At, Moment, Gets, Leaves, status_by}
use Rattle.program_run.specs.Statuses.{sink_fault, want_of_memory}
use Rattle.program_run.specs.declared.report.Left.{Left}
use Rattle.program_gen.specs.Generator.{made_files, script_files}
use Rattle.program_gen.specs.Scripts.{script_texts}
use Rattle.program_gen.specs.Summary.{summary}

-- the budget of each made script
abbrev pub made_fuel : ℕ
made_fuel = 2000000

-- the plan for made scripts: the search path is the root alone
abbrev pub made_plan : List Word → RunPlan
made_plan scripts =
    record { path = [] ∷ []; fuel = made_fuel; trace = false; scripts = scripts; rounds = None; bundles = false }

-- a made workload, by its seed and by how many modules and scripts it has
pub record Workload : Type 0 where
  pub seed : ℕ
  pub modules : ℕ
  pub scripts : ℕ

-- the three numbers in the order in which `gen` is given them
abbrev pub workload_of : ℕ → ℕ → ℕ → Workload
workload_of seed modules scripts = record { seed = seed; modules = modules; scripts = scripts }

-- the state before the first event
abbrev pub made_opening : Workload → State
made_opening made =
    opening_of (made_plan (script_files made.scripts)) (script_texts made.seed made.modules made.scripts)

-- what made scripts mean over the made tree, of which no call fails: this is their history
abbrev pub MadeOver : Means → Workload → Finished → Type 0
MadeOver means made ran =
    RunOver means (setting (made_files made.seed made.modules made.scripts) made_fuel 0 0 ran.status)
    (made_plan (script_files made.scripts)) (script_texts made.seed made.modules made.scripts) ran.history

-- the line about a run, with the status that its history has
abbrev pub made_summary : ℕ → ℕ → List Entry → List ℕ
made_summary modules scripts history = summary modules scripts history (status_of scripts history)

-- the scripts of a made workload were run, from one moment to a later one
pub record MadeRun (means : Means) (made : Workload) (old new : Moment) (ran : Finished) : Type 0 where
  -- the machine allows the history
  pub legal : IsLegal (made_opening made) ran.history
  -- the scripts' own events are those that they mean over the made tree, of which no call fails
  pub runs : MadeOver means made ran
  -- so none ended by a failed call
  pub reads : reads_of made.scripts ran.history ≡ 0
  -- what was written: the line about the run, and one for each end that was not normal; and the status
  pub leaves : Leaves (status_by (status_of made.scripts ran.history) sink_fault)
      (made_summary made.modules made.scripts ran.history) (err_text (script_files made.scripts) ran.history)
      old new ran.status

-- both sinks at one moment. No tree is looked at: the made one is gone after the call
abbrev pub sinks : At → At → Moment
sinks out err = record { files = None; faults = 0; lists = 0; out = out; err = err }

-- memory was wanted before a history was begun, and nothing has changed; or the scripts were run
abbrev pub MadeGives : Means → Workload → Moment → Moment → Left → Type 0
MadeGives means made old new left = MatchOption left.history ((left.status ≡ want_of_memory) × (new ≡ old))
    (λ history. MadeRun means made old new (finished history left.status))

-- the scripts were run, what they print going nowhere: no line about the run is written yet
pub record Quiet (means : Means) (made : Workload) (old new : At) (ran : Finished) : Type 0 where
  pub legal : IsLegal (made_opening made) ran.history
  pub runs : MadeOver means made ran
  pub reads : reads_of made.scripts ran.history ≡ 0
  pub flow : Flow
  pub gets : Gets old (err_text (script_files made.scripts) ran.history) new flow
  pub is : (ran.status ≡ want_of_memory)
      ⊎ (ran.status ≡ status_by (status_of made.scripts ran.history) sink_fault Open flow)

-- memory was wanted before a history was begun, and nothing has changed; or the scripts were run, without the line yet
abbrev pub QuietGives : Means → Workload → At → At → Left → Type 0
QuietGives means made old new left = MatchOption left.history ((left.status ≡ want_of_memory) × (new ≡ old))
    (λ history. Quiet means made old new (finished history left.status))

-- the status of a run, by what became of the line about it
abbrev pub status_after : ℕ → Flow → ℕ
status_after status Open = status
status_after status Failed = sink_fault
status_after status Short = want_of_memory

-- the line about a run was written to a sink, unless memory was wanting in the run: the later status
abbrev pub Summed : ℕ → ℕ → At → At → Finished → ℕ → Type 0
Summed modules scripts old new ran later = (flow : Flow) × Gets old (made_summary modules scripts ran.history) new flow
    × (later ≡ status_after ran.status flow) × (ran.status ≡ want_of_memory → flow ≡ Short)
