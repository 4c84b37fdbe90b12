-- What a word names where a folder is wanted.
use Rattle.std.specs.Prelude.{◌≡◌, ℕ, List, [], ◌∷◌, ◌++◌, codes, Option, Some, None}
use Rattle.base_types.specs.Path.{Path, Spells}
use Rattle.tree_files.specs.Count.{Rose}
use Rattle.tree_files.specs.Files.{Files, node_at}
use Rattle.tree_files.specs.declared.tree.Node.{Node}
use Rattle.tree_files.specs.declared.tree.Node.TheVariants.{File, Dir}
use Rattle.import_words.specs.Words.{Word}
use Rattle.program_run.specs.declared.open.Unopened.{Unopened}
use Rattle.program_run.specs.declared.open.Unopened.TheVariants as unopened

-- the path, where a directory stands there; a file is none, and neither is what is absent
abbrev pub folder_at : Path → Option Node → Option Path
folder_at path (Some (Dir time)) = Some path
folder_at path (Some (File bytes)) = None
folder_at path None = None

-- the folder that a word names in these files: none where it is no tree path
pub data IsFolder (f : Files) (word : Word) : Option Path → Type 0 where
  no_path : ((path : Path) → Spells word path → ⊥) → IsFolder f word None
  at_path : (path : Path) → Spells word path → IsFolder f word (folder_at path (node_at f path))

-- the folder is at the path that the word spells
abbrev pub IsSpelled : Word → Option Path → Type 0
IsSpelled word (Some path) = Spells word path
IsSpelled word None = Unit {0}

-- where the tree tells its files; one that does not may have a folder at any path, or none
abbrev pub Names : Option Files → Word → Option Path → Type 0
Names (Some f) word it = IsFolder f word it
Names None word it = IsSpelled word it

-- the line about a word that names none
abbrev pub unopened_line : Word → List ℕ
unopened_line word = codes "pyimport: cannot open folder '" ++ word ++ codes "'" ++ 10 ∷ []

-- why no folder was opened: the word names none, with the line about that; or a call of the tree failed, which it has
-- counted
abbrev pub NoFolder : Option Files → Word → ℕ → ℕ → Unopened → Type 0
NoFolder tree word old new (unopened.Refused line) = Names tree word None × (line.items ≡ unopened_line word)
NoFolder tree word old new unopened.Unread = Rose old new
NoFolder tree word old new unopened.NoMemory = Unit {0}
