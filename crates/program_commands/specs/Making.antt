-- What comes of a word whose folder is to be bundled.
use Rattle.std.specs.Prelude.{◌≡◌, ℕ, List, Option, Some, None}
use Rattle.tree_files.specs.Files.{Files}
use Rattle.bundle_hook.specs.declared.bundle.Packed.{Packed}
use Rattle.bundle_hook.specs.Bundle.{IsBundle}
use Rattle.tree_walk.specs.Packing.{IsPacking}
use Rattle.tree_walk.specs.declared.pack.Packing.{Packing}
use Rattle.tree_walk.specs.declared.pack.Packing.TheVariants as packing
use Rattle.import_words.specs.Words.{Word}
use Rattle.program_commands.specs.declared.make.Made.{Made}
use Rattle.program_commands.specs.declared.make.Made.TheVariants as made

-- what the word names where all files of a folder are wanted; a tree that does not tell its files may have anything there
abbrev pub Packs : Option Files → Word → Packing → Type 0
Packs None word it = Unit {0}
Packs (Some f) word it = IsPacking f word it

-- no bundle is made of it: not all files are taken, or no bundle belongs to them
abbrev pub IsUnfit : Packing → Type 0
IsUnfit packing.Missing = ⊥
IsUnfit packing.TooMuch = Unit {0}
IsUnfit (packing.Files files) = (bytes : List ℕ) → ¬ (IsBundle files bytes)

-- what is made of what was packed: the bundle of the files
abbrev pub IsMadeOf : Packing → Made → Type 0
IsMadeOf it made.Missing = it ≡ packing.Missing
IsMadeOf it made.Unfit = IsUnfit it
IsMadeOf it (made.Bytes bytes) = (files : List Packed) × (it ≡ packing.Files files) × IsBundle files bytes.items

-- what is made of the folder that the word names
abbrev pub Makes : Option Files → Word → Made → Type 0
Makes tree word it = (packed : Packing) × Packs tree word packed × IsMadeOf packed it
