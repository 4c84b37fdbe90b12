-- What the files of a tree have at a word.
use Rattle.std.specs.Prelude.{◌≡◌, ◌<◌, ◌≤◌, ℕ, nat_le, length, List, Option, Some, None, if◌then◌else◌}
use Rattle.base_types.specs.Path.{Path, Spells}
use Rattle.tree_files.specs.declared.tree.Node.{Node}
use Rattle.tree_files.specs.declared.tree.Node.TheVariants.{File, Dir}
use Rattle.tree_files.specs.Files.{Files, node_at, bytes_of}
use Rattle.tree_walk.specs.declared.open.Read.{Read}
use Rattle.tree_walk.specs.declared.open.Read.TheVariants as read

-- the bytes of a file that has at most so many, and none of one that has more
abbrev pub IsLoaded : ℕ → Option Node → Option (List ℕ) → Type 0
IsLoaded most node (Some bytes) = bytes ≡ bytes_of node
IsLoaded most node None = most < length (bytes_of node)

-- bytes that were loaded are at most so many
abbrev pub IsWithin : ℕ → Option (List ℕ) → Type 0
IsWithin most (Some bytes) = length bytes ≤ most
IsWithin most None = Unit {0}

-- a file of at most so many bytes is read whole; a directory is no file
abbrev pub read_of : ℕ → Option Node → Read
read_of most (Some (File bytes)) = if nat_le (length bytes) most then read.Bytes bytes else read.TooLong
read_of most (Some (Dir time)) = read.Missing
read_of most None = read.Missing

-- what a word names in these files: nothing where it is no tree path
pub data IsFile (f : Files) (most : ℕ) (word : List ℕ) : Read → Type 0 where
  no_path : ((path : Path) → Spells word path → ⊥) → IsFile f most word read.Missing
  at_path : (path : Path) → Spells word path → IsFile f most word (read_of most (node_at f path))

-- bytes that were read are at most so many
abbrev pub HasWithin : ℕ → Read → Type 0
HasWithin most (read.Bytes bytes) = length bytes ≤ most
HasWithin most read.Missing = Unit {0}
HasWithin most read.TooLong = Unit {0}
