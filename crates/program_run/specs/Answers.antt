-- How a call of the program ends.
use Rattle.std.specs.Prelude.{◌≡◌, ℕ, Bool, true, false, not, List, [], ◌∷◌, ◌++◌, codes, Option, Some, None, is_some}
use Rattle.machine_events.specs.declared.event.Entry.{Entry}
use Rattle.import_words.specs.Words.{Word}
use Rattle.import_words.specs.Plans.{plan_of}
use Rattle.import_words.specs.Usage.{usage_of}
use Rattle.import_words.specs.declared.plan.Plan.{Plan}
use Rattle.import_words.specs.declared.plan.Plan.TheVariants as plans
use Rattle.import_words.specs.declared.plan.RunPlan.{RunPlan}
use Rattle.program_run.specs.Statuses.{refusal, tree_fault, sink_fault, want_of_memory}
use Rattle.program_run.specs.Sinks.{Moment, IsShort, Leaves, status_by}
use Rattle.program_run.specs.Scripts.{EachOpens, IsRefused, IsUnread}
use Rattle.program_run.specs.Alone.{Means}
use Rattle.program_run.specs.Runs.{HasRun, finished}
use Rattle.program_run.specs.declared.report.Report.{Report}
use Rattle.program_run.specs.declared.report.Left.{Left}

-- what is done here: scripts of one round, over the files of the tree; with `--bundles` the tree is one in which the
-- bundles stand as folders
abbrev pub is_built : RunPlan → Bool
is_built run = not (is_some run.rounds)

-- the run where it is done here, and else none
abbrev pub run_if : Bool → RunPlan → Option RunPlan
run_if true run = Some run
run_if false run = None

-- any other plan counts as none
abbrev pub built : Option Plan → Option RunPlan
built (Some (plans.Run run)) = run_if (is_built run) run
built plan = None

-- the status of a report and its history
abbrev pub left_of : Report → Left
left_of report = record { status = report.status; history = report.history }

-- how a call ends that was made with these words and runs scripts, or refuses the words, from one moment to a later one
pub data Answers (means : Means) (words : List Word) (old new : Moment) (report : Report) : Type 0 where
  -- the words are refused: the usage line; no call of the tree was made, and its counts are as they were
  refused : built (plan_of words) ≡ None → report.plan ≡ None → report.history ≡ None → new.faults ≡ old.faults
      → new.lists ≡ old.lists → Leaves (status_by refusal refusal) [] (usage_of words ++ 10 ∷ []) old new report.status
      → Answers means words old new report
  -- a script is no file at a tree path, or too long: a line about the first
  unopened : (run : RunPlan) (line : List ℕ) → built (plan_of words) ≡ Some run
      → report.plan ≡ Some (plans.Run run) → report.history ≡ None → IsRefused old.files run.scripts line
      → Leaves (status_by refusal refusal) [] line old new report.status → Answers means words old new report
  -- a call of the tree failed before all scripts were read: a line about it
  unread : (run : RunPlan) → built (plan_of words) ≡ Some run → report.plan ≡ Some (plans.Run run)
      → report.history ≡ None → IsUnread old.files run.scripts old.faults new.faults
      → Leaves (status_by tree_fault sink_fault) [] (codes "pyimport: file fault" ++ 10 ∷ []) old new report.status
      → Answers means words old new report
  -- the scripts ran: what they printed, and a line for each end that was not normal
  ran : (run : RunPlan) (texts : List (List ℕ)) (history : List Entry) → built (plan_of words) ≡ Some run
      → report.plan ≡ Some (plans.Run run) → report.history ≡ Some history → EachOpens old.files run.scripts texts
      → HasRun means run texts old new (finished history report.status) → Answers means words old new report
  -- memory was wanted before the history was begun: nothing is written
  short : (run : RunPlan) → built (plan_of words) ≡ Some run → report.plan ≡ Some (plans.Run run)
      → report.history ≡ None → report.status ≡ want_of_memory → IsShort old new → Answers means words old new report
