-- What plans give for their tasks: one of a made workload has at least one module, and 1 to 16 scripts; one that judges a
-- stored trace has 1 to 16 scripts, where it has no rounds file; one of modules has 1 to 16 dotted names.
use Rattle.std.proofs.Common.{◌≡◌, ◌≤◌, ℕ, Bool, true, false, not, ◌&&◌, List, [], ◌∷◌, length, Option, Some, None, refl, sym, ap, subst}
use Rattle.std.specs.Prelude.{nat_le, is_some, if◌then◌else◌}
use Rattle.std.specs.List.{list_all, list_any}
use Rattle.std.specs.Option.{option_map, option_and_then}
use Rattle.std.proofs.lemmas.Bool.{leb-true, and_parts}
use Rattle.import_words.specs.OptionWords.{Word, is_refused, options, no_settings}
use Rattle.import_words.specs.declared.found.Settings.{Settings}
use Rattle.import_words.specs.declared.found.Front.{Front}
use Rattle.import_words.specs.declared.clap_command.Command.{Command}
use Rattle.import_words.specs.declared.clap_command.Command.TheVariants as command
use Rattle.import_words.specs.Plans.{plan_of, plan_by, command_of, run_plan, check_plan, module_plan, report_plan, gen_of, gen_with, number_of, within, digits_of, only_word, run_of, run_with, path_of, fuel_of, folder_of, are_scripts}
use Rattle.import_words.specs.declared.plan.Plan.{Plan}
use Rattle.import_words.specs.declared.plan.Plan.TheVariants as plans
use Rattle.program_run.specs.Scripts.{AreFew}
use Rattle.import_words.specs.declared.plan.RunPlan.{RunPlan}
use Rattle.spec_core.specs.Identifiers.{is_dotted}
use Rattle.program_commands.specs.Modules.{AreNames}
use Rattle.program_run.specs.Answers.{run_if}
use Rattle.program_rounds.specs.Answers.{rounds_plan}
use Rattle.pyimport.specs.Answers.{ReadsItself}
use Rattle.pyimport.specs.Tasks.{modules_by, runs_by, task_of}
use Rattle.pyimport.specs.declared.task.Task.{Task}
use Rattle.pyimport.specs.declared.task.Task.TheVariants as tasks

abbrev pub Fits : Option Plan → Type 0
Fits (Some (plans.Gen seed modules scripts)) = (1 ≤ modules) × ((1 ≤ scripts) × (scripts ≤ 16))
Fits (Some (plans.Check run file)) = is_some run.rounds ≡ false → AreFew run.scripts
Fits (Some (plans.Module run)) = AreFew run.scripts × AreNames run.scripts
Fits plan = Unit {0}

mapped : {A : Type 0} (make : A → Plan) → ((a : A) → Fits (Some (make a))) → (o : Option A) → Fits (option_map make o)
mapped make fits None = tt
mapped make fits (Some a) = fits a

if_not : (b : Bool) (o : Option Plan) → Fits o → Fits (if b then None else o)
if_not true o fits = tt
if_not false o fits = fits

if_so : (b : Bool) (o : Option Plan) → Fits o → Fits (if b then o else None)
if_so true o fits = fits
if_so false o fits = tt

behind : (made : Settings → List Word → Option Plan) → ((s : Settings) (rest : List Word) → Fits (made s rest)) → (o : Option Front) → Fits (option_and_then (λ it. made it.settings it.rest) o)
behind made fits None = tt
behind made fits (Some it) = fits it.settings it.rest

-- a number that was read between two bounds
abbrev IsWithin : ℕ → ℕ → Option ℕ → Type 0
IsWithin low high None = Unit {0}
IsWithin low high (Some n) = (low ≤ n) × (n ≤ high)

within_is : (low high n : ℕ) → IsWithin low high (within low high n)
within_is low high n = at (nat_le low n && nat_le n high) refl
  where
    at : (b : Bool) → (nat_le low n && nat_le n high) ≡ b → IsWithin low high (if b then Some n else None)
    at true is = let both = and_parts _ _ is in (leb-true low n both.0, leb-true n high both.1)
    at false is = tt

number_is : (most low high : ℕ) (word : Word) → IsWithin low high (number_of most low high word)
number_is most low high word = at (digits_of most word)
  where
    at : (o : Option ℕ) → IsWithin low high (option_and_then (within low high) o)
    at None = tt
    at (Some n) = within_is low high n

with_fits : (seed modules scripts : Option ℕ) → IsWithin 1 10000 modules → IsWithin 1 16 scripts → Fits (gen_with seed modules scripts)
with_fits (Some seed) (Some modules) (Some scripts) m s = (m.0, s)
with_fits None modules scripts m s = tt
with_fits (Some seed) None scripts m s = tt
with_fits (Some seed) (Some modules) None m s = tt

gen_fits : (words : List Word) → Fits (gen_of words)
gen_fits [] = tt
gen_fits (seed ∷ []) = tt
gen_fits (seed ∷ modules ∷ []) = tt
gen_fits (seed ∷ modules ∷ scripts ∷ []) =
    with_fits (digits_of 18 seed) (number_of 5 1 10000 modules) (number_of 5 1 16 scripts) (number_is 5 1 10000 modules) (number_is 5 1 16 scripts)
gen_fits (seed ∷ modules ∷ scripts ∷ word ∷ words) = tt

run_fits : (s : Settings) (words : List Word) → Fits (run_plan s words)
run_fits s [] = mapped plans.Run (λ run. tt) _
run_fits s (script ∷ scripts) = mapped plans.Run (λ run. tt) _

few_by : (scripts : List Word) → are_scripts scripts ≡ true → AreFew scripts
few_by scripts are =
    let both = and_parts _ _ are in
    (leb-true 1 (length scripts) both.0, leb-true (length scripts) 16 (and_parts _ _ both.1).0)

check_with : (s : Settings) (trace_file : Word) (scripts : List Word) → (is_some s.rounds ≡ false → AreFew scripts) → (path : Option (List Word)) (fuel : Option ℕ)
    → Fits (option_map (λ run. plans.Check run trace_file) (option_and_then (λ p. option_map (λ n. record { path = p; fuel = n; trace = s.trace; scripts = scripts; rounds = s.rounds; bundles = s.bundles }) fuel) path))
check_with s trace_file scripts few None fuel = tt
check_with s trace_file scripts few (Some p) None = tt
check_with s trace_file scripts few (Some p) (Some n) = few

check_fits : (s : Settings) (words : List Word) → Fits (check_plan s words)
check_fits s [] = tt
check_fits s (trace_file ∷ []) = if_not _ _ (at (is_some s.rounds) refl)
  where
    at : (b : Bool) → is_some s.rounds ≡ b → Fits (option_map (λ run. plans.Check run trace_file) (if b then run_with s [] [] else None))
    at true is = check_with s trace_file [] (λ no. absurd (cc (is, no))) (path_of s.path []) (fuel_of s.fuel)
    at false is = tt
check_fits s (trace_file ∷ script ∷ scripts) = if_not _ _ (at (not (is_some s.rounds)) (are_scripts (script ∷ scripts)) refl)
  where
    at : (r b : Bool) → are_scripts (script ∷ scripts) ≡ b → Fits (option_map (λ run. plans.Check run trace_file) (if r && b then run_with s (folder_of script) (script ∷ scripts) else None))
    at true true are = check_with s trace_file (script ∷ scripts) (λ no. few_by (script ∷ scripts) are) (path_of s.path (folder_of script)) (fuel_of s.fuel)
    at true false are = tt
    at false true are = tt
    at false false are = tt

module_with : (s : Settings) (names : List Word) → AreFew names × AreNames names → (path : Option (List Word)) (fuel : Option ℕ)
    → Fits (option_map plans.Module (option_and_then (λ p. option_map (λ n. record { path = p; fuel = n; trace = s.trace; scripts = names; rounds = s.rounds; bundles = s.bundles }) fuel) path))
module_with s names fits None fuel = tt
module_with s names fits (Some p) None = tt
module_with s names fits (Some p) (Some n) = fits

module_fits : (s : Settings) (names : List Word) → Fits (module_plan s names)
module_fits s names = at (not (is_some s.rounds)) (are_scripts names && list_all is_dotted names) refl
  where
    at : (r b : Bool) → (are_scripts names && list_all is_dotted names) ≡ b → Fits (if r && b then option_map plans.Module (run_with s [] names) else None)
    at true true is = let both = and_parts _ _ is in module_with s names (few_by names both.0, both.1) (path_of s.path []) (fuel_of s.fuel)
    at true false is = tt
    at false true is = tt
    at false false is = tt

report_fits : (s : Settings) (words : List Word) → Fits (report_plan s words)
report_fits s [] = tt
report_fits s (dir ∷ []) = if_so _ _ (mapped (λ path. plans.Report path dir) (λ path. tt) (path_of s.path dir))
report_fits s (dir ∷ word ∷ words) = tt

command_fits : (it : Option Command) (words : List Word) → Fits (plan_by it words)
command_fits None words = tt
command_fits (Some command.Run) words = behind run_plan run_fits (options no_settings words)
command_fits (Some command.Gen) words = gen_fits words
command_fits (Some command.Check) words = behind check_plan check_fits (options no_settings words)
command_fits (Some command.Convert) words = mapped plans.Convert (λ file. tt) (only_word words)
command_fits (Some command.Module) words = behind module_plan module_fits (options no_settings words)
command_fits (Some command.Report) words = behind report_plan report_fits (options no_settings words)
command_fits (Some command.Bundle) words = mapped plans.Bundle (λ dir. tt) (only_word words)

pub plan_fits : (words : List Word) → Fits (plan_of words)
plan_fits [] = tt
plan_fits (word ∷ words) = if_not (list_any is_refused (word ∷ words)) (plan_by (command_of word) words) (command_fits (command_of word) words)

-- ---- the task

-- what a plan that was read gives for what is to be done
abbrev pub FitsTask : Task → Type 0
FitsTask (tasks.Make it) = (1 ≤ it.modules) × ((1 ≤ it.scripts) × (it.scripts ≤ 16))
FitsTask (tasks.Check it) = it.run.rounds ≡ None → AreFew it.run.scripts
FitsTask (tasks.Modules run) = AreFew run.scripts × AreNames run.scripts
FitsTask (tasks.ModulesInBundles run) = AreFew run.scripts × AreNames run.scripts
FitsTask task = Unit {0}

modules_task : (b : Bool) (run : RunPlan) → AreFew run.scripts × AreNames run.scripts → FitsTask (modules_by b run)
modules_task true run fits = fits
modules_task false run fits = fits

runs_task : (b : Bool) (run : RunPlan) → FitsTask (runs_by b run)
runs_task true run = tt
runs_task false run = tt

task_fits : (plan : Option Plan) → Fits plan → FitsTask (task_of plan)
task_fits None fits = tt
task_fits (Some (plans.Run run)) fits = runs_task run.bundles run
task_fits (Some (plans.Gen seed modules scripts)) fits = fits
task_fits (Some (plans.Check run file)) fits = λ none. fits (ap is_some none)
task_fits (Some (plans.Convert file)) fits = tt
task_fits (Some (plans.Module run)) fits = modules_task run.bundles run fits
task_fits (Some (plans.Report path dir)) fits = tt
task_fits (Some (plans.Bundle dir)) fits = tt

pub fits_of : (words : List Word) (plan : Option Plan) → plan ≡ plan_of words → (task : Task) → task_of plan ≡ task → FitsTask task
fits_of words plan is task found = subst FitsTask found (task_fits plan (subst Fits (sym is) (plan_fits words)))

-- the plan that a task was made of
abbrev pub plan_behind : Task → Option Plan
plan_behind (tasks.Make it) = Some (plans.Gen it.seed it.modules it.scripts)
plan_behind (tasks.Convert file) = Some (plans.Convert file)
plan_behind (tasks.Report it) = Some (plans.Report it.path it.dir)
plan_behind (tasks.Bundle dir) = Some (plans.Bundle dir)
plan_behind (tasks.Check it) = Some (plans.Check it.run it.trace_file)
plan_behind (tasks.Modules run) = Some (plans.Module run)
plan_behind (tasks.ModulesInBundles run) = Some (plans.Module run)
plan_behind (tasks.RunInBundles run) = Some (plans.Run run)
plan_behind (tasks.Run plan) = plan

modules_behind : (b : Bool) (run : RunPlan) → plan_behind (modules_by b run) ≡ Some (plans.Module run)
modules_behind true run = refl
modules_behind false run = refl

runs_behind : (b : Bool) (run : RunPlan) → plan_behind (runs_by b run) ≡ Some (plans.Run run)
runs_behind true run = refl
runs_behind false run = refl

behind_task : (plan : Option Plan) → plan_behind (task_of plan) ≡ plan
behind_task None = refl
behind_task (Some (plans.Run run)) = runs_behind run.bundles run
behind_task (Some (plans.Gen seed modules scripts)) = refl
behind_task (Some (plans.Check run file)) = refl
behind_task (Some (plans.Convert file)) = refl
behind_task (Some (plans.Module run)) = modules_behind run.bundles run
behind_task (Some (plans.Report path dir)) = refl
behind_task (Some (plans.Bundle dir)) = refl

pub plan_is : (plan : Option Plan) (task : Task) → task_of plan ≡ task → plan_behind task ≡ plan
plan_is plan task found = subst (λ (x : Task). plan_behind x ≡ plan) found (behind_task plan)

-- ---- which tree is read

-- a task over the tree itself, and not over one in which bundles are folders
abbrev pub IsDirect : Task → Type 0
IsDirect (tasks.ModulesInBundles run) = ⊥
IsDirect (tasks.RunInBundles run) = ⊥
IsDirect task = Unit {0}

direct_task : (plan : Option Plan) → ReadsItself plan → IsDirect (task_of plan)
direct_task None reads = tt
direct_task (Some (plans.Run run)) reads = subst (λ (b : Bool). IsDirect (runs_by b run)) (sym reads.1) tt
direct_task (Some (plans.Gen seed modules scripts)) reads = tt
direct_task (Some (plans.Check run file)) reads = tt
direct_task (Some (plans.Convert file)) reads = tt
direct_task (Some (plans.Module run)) reads = subst (λ (b : Bool). IsDirect (modules_by b run)) (sym reads) tt
direct_task (Some (plans.Report path dir)) reads = tt
direct_task (Some (plans.Bundle dir)) reads = tt

pub direct_of : (words : List Word) (plan : Option Plan) → plan ≡ plan_of words → ReadsItself (plan_of words) → (task : Task) → task_of plan ≡ task → IsDirect task
direct_of words plan is reads task found = subst IsDirect found (direct_task plan (subst ReadsItself (sym is) reads))

-- it names no rounds file
pub no_rounds : (plan : Option Plan) → ReadsItself plan → rounds_plan plan ≡ None
no_rounds None reads = refl
no_rounds (Some (plans.Run run)) reads = ap (λ (o : Option Word). run_if (is_some o) run) reads.0
no_rounds (Some (plans.Gen seed modules scripts)) reads = refl
no_rounds (Some (plans.Check run file)) reads = refl
no_rounds (Some (plans.Convert file)) reads = refl
no_rounds (Some (plans.Module run)) reads = refl
no_rounds (Some (plans.Report path dir)) reads = refl
no_rounds (Some (plans.Bundle dir)) reads = refl
