-- What each command makes of its words: the plan, or None where they are refused. The rules are this project's own.
use Rattle.std.specs.Prelude.{◌≡◌, ℕ, Bool, not, ◌&&◌, ◌||◌, ◌==◌, nat_le, List, [], ◌∷◌, codes, length, Option, Some, None, Result, Ok, Err, is_some, if◌then◌else◌}
use Rattle.std.specs.List.{list_all, list_any, slice_split}
use Rattle.std.specs.Option.{option_map, option_or, option_and_then}
use Rattle.std.specs.Char.{is_ascii_digit}
use Rattle.std.specs.Str.Parse.{digits_value}
use Rattle.spec_core.specs.Identifiers.{is_dotted}
use Rattle.import_words.specs.OptionWords.{Word, same_text, is_refused, is_dashed, options, no_settings}
use Rattle.import_words.specs.declared.clap_command.Command.{Command}
use Rattle.import_words.specs.declared.clap_command.Command.TheVariants as command
use Rattle.import_words.specs.declared.found.Settings.{Settings}
use Rattle.import_words.specs.declared.plan.Plan.{Plan}
use Rattle.import_words.specs.declared.plan.Plan.TheVariants as plan
use Rattle.import_words.specs.declared.plan.RunPlan.{RunPlan}
use Rattle.import_words.specs.declared.plan.WordsError.{WordsError}
use Rattle.import_words.specs.declared.plan.WordsError.TheVariants as error

-- a search path of more than 4,096 entries is refused
abbrev pub few_entries : List Word → Option (List Word)
few_entries entries = if nat_le (length entries) 4096 then Some entries else None

-- LIST is at most 4,096 texts joined by `:` (58), each one entry as it stands; without it the search path is one entry
abbrev pub path_of : Option Word → Word → Option (List Word)
path_of None entry = Some (entry ∷ [])
path_of (Some list) entry = few_entries (slice_split (λ b. b == 58) list)

-- the number that one to so many ASCII digits spell
abbrev pub digits_of : ℕ → Word → Option ℕ
digits_of most word =
    if list_all is_ascii_digit word && (nat_le 1 (length word) && nat_le (length word) most) then Some (digits_value 10 word) else None

-- a number outside the bounds is refused; the bounds themselves are inside
abbrev pub within : ℕ → ℕ → ℕ → Option ℕ
within low high n = if nat_le low n && nat_le n high then Some n else None

-- the number that one to so many ASCII digits spell, in these bounds
abbrev pub number_of : ℕ → ℕ → ℕ → Word → Option ℕ
number_of most low high word = option_and_then (within low high) (digits_of most word)

-- one to seven digits with a value from 1 to 2,000,000; without them 1,000,000
abbrev pub fuel_of : Option Word → Option ℕ
fuel_of None = Some 1000000
fuel_of (Some digits) = number_of 7 1 2000000 digits

-- what stands before the last `/` (47)
abbrev pub before_last_slash : Word → Option Word
before_last_slash [] = None
before_last_slash (b ∷ bs) = option_or (option_map (λ front. b ∷ front) (before_last_slash bs)) (if b == 47 then Some [] else None)

-- the empty text where there is none
abbrev pub or_empty : Option Word → Word
or_empty (Some text) = text
or_empty None = []

-- the part of a script before its last `/`, or the empty text
abbrev pub folder_of : Word → Word
folder_of script = or_empty (before_last_slash script)

-- 1 to 16 words that do not begin with `-`
abbrev pub are_scripts : List Word → Bool
are_scripts words = nat_le 1 (length words) && (nat_le (length words) 16 && list_all (λ word. not (is_dashed word)) words)

-- a run with these settings, whose search path without `--path` has this one entry
abbrev pub run_with : Settings → Word → List Word → Option RunPlan
run_with s entry scripts =
    option_and_then (λ path. option_map (λ fuel. record { path = path; fuel = fuel; trace = s.trace; scripts = scripts; rounds = s.rounds; bundles = s.bundles }) (fuel_of s.fuel))
    (path_of s.path entry)

-- with `--rounds` no word stands behind the options, and the search path is one empty entry; else all words there are
-- scripts, and the folder of the first is the search path
abbrev pub run_of : Settings → List Word → Option RunPlan
run_of s [] = if is_some s.rounds then run_with s [] [] else None
run_of s (script ∷ scripts) = if not (is_some s.rounds) && are_scripts (script ∷ scripts) then run_with s (folder_of script) (script ∷ scripts) else None

-- `run` has the options and words of a run, and nothing beside
abbrev pub run_plan : Settings → List Word → Option Plan
run_plan s scripts = option_map plan.Run (run_of s scripts)

-- TRACE, and then what `run` has; `--trace` and `--bundles` are no options here
abbrev pub check_plan : Settings → List Word → Option Plan
check_plan s [] = None
check_plan s (trace_file ∷ words) = if s.trace || s.bundles then None else option_map (λ run. plan.Check run trace_file) (run_of s words)

-- 1 to 16 dotted names; the search path is one empty entry, and `--rounds` is no option here
abbrev pub module_plan : Settings → List Word → Option Plan
module_plan s names = if not (is_some s.rounds) && (are_scripts names && list_all is_dotted names) then option_map plan.Module (run_with s [] names) else None

-- no option stood but `--path`, which may be missing too
abbrev pub has_path_alone : Settings → Bool
has_path_alone s = not (is_some s.fuel) && (not (is_some s.rounds) && (not s.trace && not s.bundles))

-- one folder, which is the search path too; `--path` is the only option
abbrev pub report_plan : Settings → List Word → Option Plan
report_plan s (dir ∷ []) = if has_path_alone s then option_map (λ path. plan.Report path dir) (path_of s.path dir) else None
report_plan s words = None

-- a made workload needs all three numbers
abbrev pub gen_with : Option ℕ → Option ℕ → Option ℕ → Option Plan
gen_with (Some seed) (Some modules) (Some scripts) = Some (plan.Gen seed modules scripts)
gen_with seed modules scripts = None

-- SEED of 1 to 18 digits, MODULES from 1 to 10,000 and SCRIPTS from 1 to 16, both of at most five digits
abbrev pub gen_of : List Word → Option Plan
gen_of (seed ∷ modules ∷ scripts ∷ []) = gen_with (digits_of 18 seed) (number_of 5 1 10000 modules) (number_of 5 1 16 scripts)
gen_of words = None

-- one word that does not begin with `-`
abbrev pub only_word : List Word → Option Word
only_word (word ∷ []) = if is_dashed word then None else Some word
only_word words = None

-- what a command makes of the settings and the words behind them
abbrev pub behind_options : (Settings → List Word → Option Plan) → List Word → Option Plan
behind_options made words = option_and_then (λ it. made it.settings it.rest) (options no_settings words)

-- the seven words that name a command, spelled in full and in lower case
abbrev pub command_of : Word → Option Command
command_of word =
    if same_text word (codes "run") then Some command.Run
    else if same_text word (codes "gen") then Some command.Gen
    else if same_text word (codes "check") then Some command.Check
    else if same_text word (codes "convert") then Some command.Convert
    else if same_text word (codes "module") then Some command.Module
    else if same_text word (codes "report") then Some command.Report
    else if same_text word (codes "bundle") then Some command.Bundle
    else None

-- a first word that names no command has no plan; `gen`, `convert` and `bundle` have no options
abbrev pub plan_by : Option Command → List Word → Option Plan
plan_by None words = None
plan_by (Some command.Run) words = behind_options run_plan words
plan_by (Some command.Gen) words = gen_of words
plan_by (Some command.Check) words = behind_options check_plan words
plan_by (Some command.Convert) words = option_map plan.Convert (only_word words)
plan_by (Some command.Module) words = behind_options module_plan words
plan_by (Some command.Report) words = behind_options report_plan words
plan_by (Some command.Bundle) words = option_map plan.Bundle (only_word words)

-- the plan of all words: the first is the command, and none is refused by itself
abbrev pub plan_of : List Word → Option Plan
plan_of [] = None
plan_of (word ∷ words) = if list_any is_refused (word ∷ words) then None else plan_by (command_of word) words

-- what `read_words` answers, unless memory is wanted
abbrev pub Plans : Option Plan → Result Plan WordsError → Type 0
Plans expected (Ok it) = expected ≡ Some it
Plans expected (Err error.Usage) = expected ≡ None
Plans expected (Err error.NoMemory) = Unit {0}
