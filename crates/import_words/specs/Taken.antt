-- The options that each command has, and what is taken of its words.
use Rattle.std.specs.Prelude.{Bool, not, ◌||◌, List, [], ◌∷◌, codes, Option, Some, None, is_some, if◌then◌else◌}
use Rattle.std.specs.List.{list_all, list_any}
use Rattle.std.specs.Option.{option_and_then}
use Rattle.import_words.specs.OptionWords.{Word, same_text, options, no_settings}
use Rattle.import_words.specs.declared.clap_command.Command.{Command}
use Rattle.import_words.specs.declared.clap_command.Command.TheVariants as command
use Rattle.import_words.specs.declared.found.Settings.{Settings}
use Rattle.import_words.specs.declared.found.Front.{Front}

-- the five options that there are, without their values
pub data Key : Type 0 where
  path : Key
  fuel : Key
  rounds : Key
  bundles : Key
  trace : Key

-- what stands behind the `--` of the option
abbrev pub name_of : Key → Word
name_of path = codes "path"
name_of fuel = codes "fuel"
name_of rounds = codes "rounds"
name_of bundles = codes "bundles"
name_of trace = codes "trace"

-- each option once
abbrev pub all_keys : List Key
all_keys = path ∷ fuel ∷ rounds ∷ bundles ∷ trace ∷ []

-- `run` has all; `check` has no flag, `module` no `--rounds`, `report` `--path` alone, and the others have none
abbrev pub keys_of : Command → List Key
keys_of command.Run = all_keys
keys_of command.Check = path ∷ fuel ∷ rounds ∷ []
keys_of command.Module = path ∷ fuel ∷ bundles ∷ trace ∷ []
keys_of command.Report = path ∷ []
keys_of other = []

-- the option is one of these
abbrev pub has : List Key → Key → Bool
has keys k = list_any (λ j. same_text (name_of j) (name_of k)) keys

-- the option stood
abbrev pub is_given : Key → Settings → Bool
is_given path s = is_some s.path
is_given fuel s = is_some s.fuel
is_given rounds s = is_some s.rounds
is_given bundles s = s.bundles
is_given trace s = s.trace

-- no option stood but these
abbrev pub allows : List Key → Settings → Bool
allows keys s = list_all (λ k. has keys k || not (is_given k s)) all_keys

-- what was found counts as refused where another option than these stood
abbrev pub only : List Key → Option Front → Option Front
only keys found = option_and_then (λ it. if allows keys it.settings then Some it else None) found

-- the options that stand in front of a command's other words, and
-- those words; None where one of them is no option of the command
abbrev pub taken : Command → List Word → Option Front
taken of words = only (keys_of of) (options no_settings words)
