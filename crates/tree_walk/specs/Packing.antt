-- What a word names where all files of a folder are wanted.
use Rattle.std.specs.Prelude.{ℕ, List, Option, Some, None}
use Rattle.base_types.specs.Path.{Path, Spells}
use Rattle.tree_files.specs.Files.{Files, node_at}
use Rattle.tree_files.specs.declared.tree.Node.{Node}
use Rattle.tree_files.specs.declared.tree.Node.TheVariants.{File, Dir}
use Rattle.bundle_hook.specs.declared.bundle.Packed.{Packed}
use Rattle.tree_walk.specs.Below.{taken}
use Rattle.tree_walk.specs.declared.pack.Packing.{Packing}
use Rattle.tree_walk.specs.declared.pack.Packing.TheVariants as packing

-- the files, where they are taken
abbrev pub packing_of : Option (List Packed) → Packing
packing_of (Some files) = packing.Files files
packing_of None = packing.TooMuch

-- of a folder what is taken of it; a file is no folder
abbrev pub packing_at : Files → Path → Option Node → Packing
packing_at f dir (Some (Dir time)) = packing_of (taken f dir)
packing_at f dir (Some (File bytes)) = packing.Missing
packing_at f dir None = packing.Missing

-- what the word names in these files: nothing where it is no tree path
pub data IsPacking (f : Files) (word : List ℕ) : Packing → Type 0 where
  no_path : ((path : Path) → Spells word path → ⊥) → IsPacking f word packing.Missing
  at_path : (path : Path) → Spells word path → IsPacking f word (packing_at f path (node_at f path))
