-- How a call of the program ends that may name a rounds file.
use Rattle.std.specs.Prelude.{◌≡◌, ◌≤◌, ◌++◌, ◌∷◌, [], ℕ, Bool, List, codes, Option, Some, None, is_some}
use Rattle.tree_files.specs.Count.{Rose}
use Rattle.words_rounds.specs.declared.rounds.Round.{Round}
use Rattle.machine_events.specs.declared.event.Entry.{Entry}
use Rattle.import_words.specs.Words.{Word}
use Rattle.import_words.specs.Plans.{plan_of}
use Rattle.import_words.specs.declared.plan.Plan.{Plan}
use Rattle.import_words.specs.declared.plan.Plan.TheVariants as plans
use Rattle.import_words.specs.declared.plan.RunPlan.{RunPlan}
use Rattle.program_run.specs.Statuses.{refusal, tree_fault, sink_fault, want_of_memory}
use Rattle.program_run.specs.Sinks.{Moment, IsShort, Leaves, status_by}
use Rattle.program_run.specs.Alone.{Means}
use Rattle.program_run.specs.Answers as alone
use Rattle.program_run.specs.Answers.{run_if}
use Rattle.program_run.specs.Runs.{finished}
use Rattle.program_run.specs.declared.open.Unopened.{Unopened}
use Rattle.program_run.specs.declared.open.Unopened.TheVariants as why
use Rattle.program_run.specs.declared.report.Report.{Report}
use Rattle.program_rounds.specs.Opened.{HasRounds, HasNoRounds, EachRoundOpens, IsRefusedIn}
use Rattle.program_rounds.specs.Runs.{HasRun}

-- a run that names a rounds file
abbrev pub in_rounds : RunPlan → Bool
in_rounds run = is_some run.rounds

-- any other plan counts as none
abbrev pub rounds_plan : Option Plan → Option RunPlan
rounds_plan (Some (plans.Run run)) = run_if (in_rounds run) run
rounds_plan plan = None

-- the words ask for a run of a rounds file, and the report says so
pub record Asks (words : List Word) (report : Report) (run : RunPlan) (file : Word) : Type 0 where
  pub run_is : rounds_plan (plan_of words) ≡ Some run
  pub file_is : run.rounds ≡ Some file
  pub plan : report.plan ≡ Some (plans.Run run)

-- what a call leaves that found no rounds, or no texts
abbrev pub Tells : Unopened → Moment → Moment → ℕ → Type 0
Tells (why.Refused line) old new status = Leaves (status_by refusal refusal) [] line.items old new status
Tells why.Unread old new status =
    Leaves (status_by tree_fault sink_fault) [] (codes "pyimport: file fault" ++ 10 ∷ []) old new status
Tells why.NoMemory old new status = (status ≡ want_of_memory) × (new.out ≡ old.out) × (new.err ≡ old.err)

-- between these moments no call of the tree failed; its count of lists, where it stood past the greatest u64, may have
-- been cut to that, and nothing else has changed
pub record IsLater (first now : Moment) : Type 0 where
  pub files : now.files ≡ first.files
  pub faults : now.faults ≡ first.faults
  pub lists : now.lists ≤ first.lists
  pub out : now.out ≡ first.out
  pub err : now.err ≡ first.err

-- how a call ends that was made with these words, from one moment to a later one
pub data Answers (means : Means) (words : List Word) (old new : Moment) (report : Report) : Type 0 where
  -- no rounds file is named
  plain : rounds_plan (plan_of words) ≡ None → alone.Answers means words old new report
      → Answers means words old new report
  -- it is no file at a tree path, too long, or spells no rounds: a line about it
  no_rounds : (run : RunPlan) (file : Word) (line : List ℕ) → Asks words report run file → report.history ≡ None
      → HasNoRounds old.files file line → Leaves (status_by refusal refusal) [] line old new report.status
      → Answers means words old new report
  -- a script is no file at a tree path in its own round's files, or too long: a line about the first
  unopened : (run : RunPlan) (file : Word) (rounds : List Round) (line : List ℕ) → Asks words report run file
      → report.history ≡ None → HasRounds old.files file rounds → IsRefusedIn old.files rounds line
      → Leaves (status_by refusal refusal) [] line old new report.status → Answers means words old new report
  -- a call of the tree failed before all scripts were read: a line about it
  unread : (run : RunPlan) (file : Word) → Asks words report run file → report.history ≡ None
      → Rose old.faults new.faults
      → Leaves (status_by tree_fault sink_fault) [] (codes "pyimport: file fault" ++ 10 ∷ []) old new report.status
      → Answers means words old new report
  -- the scripts ran, round after round
  ran : (run : RunPlan) (file : Word) (rounds : List Round) (texts : List (List ℕ)) (history : List Entry)
      → Asks words report run file
      → report.history ≡ Some history → HasRounds old.files file rounds → EachRoundOpens old.files rounds texts
      → HasRun means run rounds texts old new (finished history report.status) → Answers means words old new report
  -- memory was wanted before the history was begun: nothing is written
  short : (run : RunPlan) (file : Word) → Asks words report run file → report.history ≡ None
      → report.status ≡ want_of_memory → IsShort old new → Answers means words old new report
