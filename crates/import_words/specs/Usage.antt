-- The usage line for refused words, by the first of them.
use Rattle.std.specs.Prelude.{List, [], ◌∷◌, codes, Option, Some, None}
use Rattle.import_words.specs.OptionWords.{Word}
use Rattle.import_words.specs.Plans.{command_of}
use Rattle.import_words.specs.declared.clap_command.Command.{Command}
use Rattle.import_words.specs.declared.clap_command.Command.TheVariants as command

-- `check` and `convert` share a line, and so do `run`, `gen`, and a first word that names no command or is missing
abbrev pub usage_by : Option Command → Word
usage_by (Some command.Check) = codes "pyimport: usage: pyimport check [--path LIST] [--fuel N] (TRACE SCRIPT.. | --rounds FILE TRACE) | pyimport convert TRACE"
usage_by (Some command.Convert) = codes "pyimport: usage: pyimport check [--path LIST] [--fuel N] (TRACE SCRIPT.. | --rounds FILE TRACE) | pyimport convert TRACE"
usage_by (Some command.Module) = codes "pyimport: usage: pyimport module [--path LIST] [--fuel N] [--trace] [--bundles] NAME.."
usage_by (Some command.Report) = codes "pyimport: usage: pyimport report [--path LIST] DIR"
usage_by (Some command.Bundle) = codes "pyimport: usage: pyimport bundle DIR"
usage_by other =
    codes "pyimport: usage: pyimport run [--path LIST] [--fuel N] [--trace] [--bundles] (SCRIPT.. | --rounds FILE) | pyimport gen SEED MODULES SCRIPTS"

-- the first word alone decides
abbrev pub usage_of : List Word → Word
usage_of [] = usage_by None
usage_of (word ∷ words) = usage_by (command_of word)
