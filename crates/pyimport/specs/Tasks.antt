-- What is to be done for a plan.
use Rattle.std.specs.Prelude.{Bool, true, false, Option, Some}
use Rattle.import_words.specs.declared.plan.Plan.{Plan}
use Rattle.import_words.specs.declared.plan.Plan.TheVariants as plans
use Rattle.import_words.specs.declared.plan.RunPlan.{RunPlan}
use Rattle.pyimport.specs.declared.task.Task.{Task}
use Rattle.pyimport.specs.declared.task.Task.TheVariants as tasks

-- by whether bundles are folders: modules run as programs over the tree, or over the one in which they are
abbrev pub modules_by : Bool → RunPlan → Task
modules_by true run = tasks.ModulesInBundles run
modules_by false run = tasks.Modules run

-- the same of scripts
abbrev pub runs_by : Bool → RunPlan → Task
runs_by true run = tasks.RunInBundles run
runs_by false run = tasks.Run (Some (plans.Run run))

-- each command has a call of its own; words that are refused are the business of the call that runs scripts
abbrev pub task_of : Option Plan → Task
task_of (Some (plans.Gen seed modules scripts)) = tasks.Make (record { seed = seed; modules = modules; scripts = scripts })
task_of (Some (plans.Convert file)) = tasks.Convert file
task_of (Some (plans.Report path dir)) = tasks.Report (record { path = path; dir = dir })
task_of (Some (plans.Bundle dir)) = tasks.Bundle dir
task_of (Some (plans.Check run file)) = tasks.Check (record { run = run; trace_file = file })
task_of (Some (plans.Module run)) = modules_by run.bundles run
task_of (Some (plans.Run run)) = runs_by run.bundles run
task_of plan = tasks.Run plan
