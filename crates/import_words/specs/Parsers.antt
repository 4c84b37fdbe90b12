-- What `clap` is told of each command.
use Rattle.std.specs.Prelude.{true, List, [], ◌∷◌, codes, Some}
use Rattle.clap.specs.Words.{Rule, Text, App, new_rule, new_app, with_rule}
use Rattle.clap.specs.Simple.{on_top}
use Rattle.clap.specs.declared.builder.action.ArgAction.TheVariants.{Append, Set, SetTrue}
use Rattle.import_words.specs.declared.clap_command.Command.{Command}
use Rattle.import_words.specs.declared.clap_command.Command.TheVariants as command

-- an option with a value
abbrev pub value_rule : Text → Rule
value_rule name = record (new_rule name) { long = Some name; action = Some Set }

-- an option without one
abbrev pub flag_rule : Text → Rule
flag_rule name = record (new_rule name) { long = Some name; action = Some SetTrue }

-- the first word that is no option, and all behind it
abbrev pub words_rule : Rule
words_rule = record (new_rule (codes "words")) { action = Some Append; trailing_var_arg = true }

-- no word is the program's name, and no option asks for help
abbrev pub bare_app : Text → App
bare_app name =
    on_top (λ s. record s { no_binary_name = true; disable_help_flag = true; disable_version_flag = true }) (new_app name)

-- the rules are added one after another, the first of them first
abbrev pub with_rules : App → List Rule → App
with_rules a [] = a
with_rules a (r ∷ rs) = with_rules (with_rule a r) rs

-- `--path LIST`
abbrev pub path_rule : Rule
path_rule = value_rule (codes "path")

-- `--fuel N`
abbrev pub fuel_rule : Rule
fuel_rule = value_rule (codes "fuel")

-- `--rounds FILE`
abbrev pub rounds_rule : Rule
rounds_rule = value_rule (codes "rounds")

-- `--bundles`, which has no value
abbrev pub bundles_rule : Rule
bundles_rule = flag_rule (codes "bundles")

-- `--trace`, which has no value
abbrev pub trace_rule : Rule
trace_rule = flag_rule (codes "trace")

-- each command is told of its own options alone, so another's is unknown to it; each takes the words behind them
abbrev pub app_for : Command → App
app_for command.Run =
    with_rules (bare_app (codes "run"))
    (path_rule ∷ fuel_rule ∷ rounds_rule ∷ bundles_rule ∷ trace_rule ∷ words_rule ∷ [])
app_for command.Gen = with_rules (bare_app (codes "gen")) (words_rule ∷ [])
app_for command.Check = with_rules (bare_app (codes "check")) (path_rule ∷ fuel_rule ∷ rounds_rule ∷ words_rule ∷ [])
app_for command.Convert = with_rules (bare_app (codes "convert")) (words_rule ∷ [])
app_for command.Module =
    with_rules (bare_app (codes "module")) (path_rule ∷ fuel_rule ∷ bundles_rule ∷ trace_rule ∷ words_rule ∷ [])
app_for command.Report = with_rules (bare_app (codes "report")) (path_rule ∷ words_rule ∷ [])
app_for command.Bundle = with_rules (bare_app (codes "bundle")) (words_rule ∷ [])
