-- What a word names where a stored trace is wanted.
use Rattle.std.specs.Prelude.{◌≡◌, ℕ, List, [], ◌∷◌, ◌++◌, codes, Option, Some, None}
use Rattle.tree_files.specs.Files.{Files}
use Rattle.tree_files.specs.Count.{Rose}
use Rattle.import_words.specs.Words.{Word}
use Rattle.program_run.specs.declared.open.Unopened.{Unopened}
use Rattle.program_run.specs.declared.open.Unopened.TheVariants as unopened
use Rattle.tree_walk.specs.Reading.{IsFile, HasWithin}
use Rattle.tree_walk.specs.declared.open.Read.{Read}
use Rattle.tree_walk.specs.declared.open.Read.TheVariants as read
use Rattle.program_commands.specs.declared.trace_open.TheConstants.{LONGEST_TRACE}

-- a stored trace is a file of at most 268,435,456 bytes; a tree that does not tell its files may have any there
abbrev pub Names : Option Files → Word → Read → Type 0
Names None word it = HasWithin LONGEST_TRACE it
Names (Some f) word it = IsFile f LONGEST_TRACE word it

-- the line about a word that names none
abbrev pub unopened_line : Word → Read → Option (List ℕ)
unopened_line word read.Missing = Some (codes "pyimport: cannot open trace '" ++ word ++ codes "'" ++ 10 ∷ [])
unopened_line word read.TooLong = Some (codes "pyimport: trace '" ++ word ++ codes "' is too long" ++ 10 ∷ [])
unopened_line word (read.Bytes bytes) = None

-- why a trace was not opened: it is none, with the line about that; or a call of the tree failed, which it has counted
abbrev pub NoTrace : Option Files → Word → ℕ → ℕ → Unopened → Type 0
NoTrace tree word old new (unopened.Refused line) = (it : Read) × Names tree word it × (unopened_line word it ≡ Some line.items)
NoTrace tree word old new unopened.Unread = Rose old new
NoTrace tree word old new unopened.NoMemory = Unit {0}
