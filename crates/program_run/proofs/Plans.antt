-- A plan that is built has 1 to 16 scripts.
use Rattle.std.proofs.Common.{◌≡◌, ℕ, Bool, true, false, not, ◌&&◌, List, [], ◌∷◌, length, Option, Some, None, refl, subst}
use Rattle.std.specs.Prelude.{is_some, if◌then◌else◌}
use Rattle.std.specs.List.{list_any}
use Rattle.std.specs.Option.{option_map, option_and_then}
use Rattle.std.proofs.lemmas.Bool.{leb-true, and_parts}
use Rattle.import_words.specs.OptionWords.{Word, is_refused, options, no_settings}
use Rattle.import_words.specs.declared.found.Settings.{Settings}
use Rattle.import_words.specs.declared.found.Front.{Front}
use Rattle.import_words.specs.declared.clap_command.Command.{Command}
use Rattle.import_words.specs.declared.clap_command.Command.TheVariants as command
use Rattle.import_words.specs.Plans.{plan_of, plan_by, command_of, run_plan, check_plan, module_plan, report_plan, gen_of, gen_with, number_of, digits_of, only_word, run_of, run_with, are_scripts, path_of, fuel_of, folder_of}
use Rattle.import_words.specs.declared.plan.Plan.{Plan}
use Rattle.import_words.specs.declared.plan.Plan.TheVariants as plans
use Rattle.import_words.specs.declared.plan.RunPlan.{RunPlan}
use Rattle.program_run.specs.Scripts.{AreFew}
use Rattle.program_run.specs.Answers.{built, run_if, is_built}

abbrev pub IsFewIn : Option Plan → Type 0
IsFewIn o = (run : RunPlan) → built o ≡ Some run → AreFew run.scripts

none_built : IsFewIn None
none_built run is = absurd (cc is)

-- a plan of another command is none that is built
mapped : {A : Type 0} (make : A → Plan) → ((a : A) → built (Some (make a)) ≡ None) → (o : Option A) → IsFewIn (option_map make o)
mapped make none None = none_built
mapped make none (Some a) = λ run is. absurd (cc (none a, is))

if_not : (b : Bool) (o : Option Plan) → IsFewIn o → IsFewIn (if b then None else o)
if_not true o few = none_built
if_not false o few = few

if_so : (b : Bool) (o : Option Plan) → IsFewIn o → IsFewIn (if b then o else None)
if_so true o few = few
if_so false o few = none_built

if_run : (b : Bool) (r run : RunPlan) → run_if b r ≡ Some run → AreFew r.scripts → AreFew run.scripts
if_run true r run is few = let same : r ≡ run = cc is in subst (λ (x : RunPlan). AreFew x.scripts) same few
if_run false r run is few = absurd (cc is)

few_by : (scripts : List Word) → are_scripts scripts ≡ true → AreFew scripts
few_by scripts are =
    let both = and_parts _ _ are in
    (leb-true 1 (length scripts) both.0, leb-true (length scripts) 16 (and_parts _ _ both.1).0)

module _ (s : Settings) (entry : Word) (scripts : List Word) where
  abbrev plan_with : List Word → ℕ → RunPlan
  plan_with path fuel = record { path = path; fuel = fuel; trace = s.trace; scripts = scripts; rounds = s.rounds; bundles = s.bundles }

  -- with a rounds file no plan is built
  rounds_by : (path : Option (List Word)) (fuel : Option ℕ) → is_some s.rounds ≡ true → IsFewIn (option_map plans.Run (option_and_then (λ p. option_map (λ n. plan_with p n) fuel) path))
  rounds_by None fuel r = none_built
  rounds_by (Some p) None r = none_built
  rounds_by (Some p) (Some n) r = λ run is. absurd (never (is_some s.rounds) r (plan_with p n) run is)
    where
      never : (x : Bool) → x ≡ true → (it run : RunPlan) → run_if (not x) it ≡ Some run → ⊥
      never true e it run is = cc is
      never false e it run is = cc e

  few_with : (path : Option (List Word)) (fuel : Option ℕ) → AreFew scripts → IsFewIn (option_map plans.Run (option_and_then (λ p. option_map (λ n. plan_with p n) fuel) path))
  few_with None fuel few = none_built
  few_with (Some p) None few = none_built
  few_with (Some p) (Some n) few = λ run is. if_run (is_built (plan_with p n)) (plan_with p n) run is few

run_few : (s : Settings) (scripts : List Word) → IsFewIn (run_plan s scripts)
run_few s [] = at (is_some s.rounds) refl
  where
    at : (b : Bool) → is_some s.rounds ≡ b → IsFewIn (option_map plans.Run (if b then run_with s [] [] else None))
    at true r = rounds_by s [] [] (path_of s.path []) (fuel_of s.fuel) r
    at false r = none_built
run_few s (script ∷ scripts) = at (not (is_some s.rounds)) (are_scripts (script ∷ scripts)) refl
  where
    at : (r b : Bool) → are_scripts (script ∷ scripts) ≡ b → IsFewIn (option_map plans.Run (if r && b then run_with s (folder_of script) (script ∷ scripts) else None))
    at true true are = few_with s (folder_of script) (script ∷ scripts) (path_of s.path (folder_of script)) (fuel_of s.fuel) (few_by (script ∷ scripts) are)
    at true false are = none_built
    at false true are = none_built
    at false false are = none_built

behind : (made : Settings → List Word → Option Plan) → ((s : Settings) (rest : List Word) → IsFewIn (made s rest)) → (o : Option Front) → IsFewIn (option_and_then (λ it. made it.settings it.rest) o)
behind made few None = none_built
behind made few (Some it) = few it.settings it.rest

gen_none : (seed modules scripts : Option ℕ) → IsFewIn (gen_with seed modules scripts)
gen_none (Some seed) (Some modules) (Some scripts) = λ run is. absurd (cc is)
gen_none None modules scripts = none_built
gen_none (Some seed) None scripts = none_built
gen_none (Some seed) (Some modules) None = none_built

gen_few : (words : List Word) → IsFewIn (gen_of words)
gen_few [] = none_built
gen_few (seed ∷ []) = none_built
gen_few (seed ∷ modules ∷ []) = none_built
gen_few (seed ∷ modules ∷ scripts ∷ []) = gen_none (digits_of 18 seed) (number_of 5 1 10000 modules) (number_of 5 1 16 scripts)
gen_few (seed ∷ modules ∷ scripts ∷ word ∷ words) = none_built

check_few : (s : Settings) (words : List Word) → IsFewIn (check_plan s words)
check_few s [] = none_built
check_few s (trace_file ∷ words) = if_not _ _ (mapped (λ run. plans.Check run trace_file) (λ run. refl) (run_of s words))

module_few : (s : Settings) (names : List Word) → IsFewIn (module_plan s names)
module_few s names = if_so _ _ (mapped plans.Module (λ run. refl) (run_with s [] names))

report_few : (s : Settings) (words : List Word) → IsFewIn (report_plan s words)
report_few s [] = none_built
report_few s (dir ∷ []) = if_so _ _ (mapped (λ path. plans.Report path dir) (λ path. refl) (path_of s.path dir))
report_few s (dir ∷ word ∷ words) = none_built

command_few : (it : Option Command) (words : List Word) → IsFewIn (plan_by it words)
command_few None words = none_built
command_few (Some command.Run) words = behind run_plan run_few (options no_settings words)
command_few (Some command.Gen) words = gen_few words
command_few (Some command.Check) words = behind check_plan check_few (options no_settings words)
command_few (Some command.Convert) words = mapped plans.Convert (λ file. refl) (only_word words)
command_few (Some command.Module) words = behind module_plan module_few (options no_settings words)
command_few (Some command.Report) words = behind report_plan report_few (options no_settings words)
command_few (Some command.Bundle) words = mapped plans.Bundle (λ dir. refl) (only_word words)

pub built_few : (words : List Word) → IsFewIn (plan_of words)
built_few [] = none_built
built_few (word ∷ words) = if_not (list_any is_refused (word ∷ words)) (plan_by (command_of word) words) (command_few (command_of word) words)
