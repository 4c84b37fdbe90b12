-- How a call of the program ends.
use Rattle.std.specs.Prelude.{◌≡◌, false, List, Option, Some, None}
use Rattle.import_words.specs.Words.{Word}
use Rattle.import_words.specs.Plans.{plan_of}
use Rattle.import_words.specs.declared.plan.Plan.{Plan}
use Rattle.import_words.specs.declared.plan.Plan.TheVariants as plans
use Rattle.import_words.specs.declared.plan.RunPlan.{RunPlan}
use Rattle.meaning_script.specs.Meaning.{meaning}
use Rattle.run_module.specs.Programs.{meaning_of_name}
use Rattle.step_calls.specs.Sources.{sources}
use Rattle.program_run.specs.Sinks.{Moment}
use Rattle.program_run.specs.Statuses.{want_of_memory}
use Rattle.program_run.specs.Answers.{left_of}
use Rattle.program_run.specs.Runs.{Gives}
use Rattle.program_commands.specs.Modules.{of_names, no_texts}
use Rattle.program_run.specs.declared.report.Report.{Report}
use Rattle.program_rounds.specs.Answers as call
use Rattle.program_gen.specs.MadeRuns.{MadeGives, sinks, workload_of}
use Rattle.program_commands.specs.Converting.{Converts}
use Rattle.program_commands.specs.Bundling.{Bundles}
use Rattle.pyimport.specs.Bundled.{expanded, GivesInBundles}
use Rattle.program_check.specs.Checking.{Checks}
use Rattle.program_commands.specs.Reporting.{Reports}
use Rattle.pyimport.specs.declared.task.Numbers.{Numbers}
use Rattle.pyimport.specs.declared.task.Stored.{Stored}
use Rattle.pyimport.specs.declared.task.Reported.{Reported}
use Rattle.pyimport.specs.declared.task.Task.TheVariants as tasks
use Rattle.pyimport.specs.Tasks.{task_of}

-- the plan is not that of a call that lists folders and has no history to tell of it: one that judges a stored trace,
-- writes a bundle, or reports imports
abbrev pub ReadsNoFolder : Option Plan → Type 0
ReadsNoFolder (Some (plans.Check run file)) = ⊥
ReadsNoFolder (Some (plans.Bundle dir)) = ⊥
ReadsNoFolder (Some (plans.Report path dir)) = ⊥
ReadsNoFolder plan = Unit {0}

-- the tree that was handed in is read itself, and not a fork of it whose counts are added in the end: no rounds file is
-- named, and bundles are files. (A count that stands past the greatest u64 is cut to that where a fork's is added.)
abbrev pub ReadsItself : Option Plan → Type 0
ReadsItself (Some (plans.Run run)) = (run.rounds ≡ None) × (run.bundles ≡ false)
ReadsItself (Some (plans.Module run)) = run.bundles ≡ false
ReadsItself plan = Unit {0}

-- how a call ends that was made with these words, from one moment to a later one
pub data Answers (words : List Word) (old new : Moment) (report : Report) : Type 0 where
  -- a made workload was run: the tree is as it was, and so are its counts
  made : (it : Numbers) → task_of (plan_of words) ≡ tasks.Make it
      → report.plan ≡ Some (plans.Gen it.seed it.modules it.scripts) → new.faults ≡ old.faults → new.lists ≡ old.lists
      → MadeGives (meaning sources) (workload_of it.seed it.modules it.scripts) (sinks old.out old.err)
      (sinks new.out new.err) (left_of report)
      → Answers words old new report
  -- a stored trace was written anew, or the line about it: no folder of the tree was listed
  converted : (file : Word) → task_of (plan_of words) ≡ tasks.Convert file → report.plan ≡ Some (plans.Convert file)
      → report.history ≡ None → new.lists ≡ old.lists → Converts file old new report.status → Answers words old new report
  -- a stored trace was judged, or the line about what cannot be opened
  checked : (it : Stored) → task_of (plan_of words) ≡ tasks.Check it → report.plan ≡ Some (plans.Check it.run it.trace_file)
      → report.history ≡ None → Checks (meaning sources) it.trace_file it.run old new report.status
      → Answers words old new report
  -- the files below a folder were written as a bundle, or a line about them
  bundled : (dir : Word) → task_of (plan_of words) ≡ tasks.Bundle dir → report.plan ≡ Some (plans.Bundle dir)
      → report.history ≡ None → Bundles dir old new report.status → Answers words old new report
  -- the imports of the files below a folder were reported, or the line about what cannot be opened
  reported : (it : Reported) → task_of (plan_of words) ≡ tasks.Report it
      → report.plan ≡ Some (plans.Report it.path it.dir) → report.history ≡ None → Reports it.dir it.path old new report.status
      → Answers words old new report
  -- modules were run as programs, each in the thread of its place: the machine opened as for scripts of these names with
  -- empty texts
  modules : (run : RunPlan) → task_of (plan_of words) ≡ tasks.Modules run → report.plan ≡ Some (plans.Module run)
      → Gives (of_names (meaning_of_name sources) run.scripts) run (no_texts run.scripts) old new (left_of report)
      → Answers words old new report
  -- the same over the tree in which each bundle is the folder that it lists
  modules_in_bundles : (run : RunPlan) → task_of (plan_of words) ≡ tasks.ModulesInBundles run
      → report.plan ≡ Some (plans.Module run)
      → GivesInBundles (of_names (meaning_of_name sources) run.scripts) run (no_texts run.scripts) (expanded old) (expanded new)
      (left_of report)
      → Answers words old new report
  -- scripts were run over the tree in which each bundle is the folder that it lists
  runs_in_bundles : (run : RunPlan) → task_of (plan_of words) ≡ tasks.RunInBundles run
      → call.Answers (meaning sources) words (expanded old) (expanded new) report → Answers words old new report
  -- scripts of the tree were run, at once or round after round, or the words were refused
  runs : (plan : Option Plan) → task_of (plan_of words) ≡ tasks.Run plan → call.Answers (meaning sources) words old new report
      → Answers words old new report
  -- memory was wanted before the words were read: nothing is written, and no call of the tree was made
  wordless : new ≡ old → report.plan ≡ None → report.history ≡ None → report.status ≡ want_of_memory
      → Answers words old new report
