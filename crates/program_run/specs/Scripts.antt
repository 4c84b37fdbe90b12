-- What scripts' words name in a tree.
use Rattle.std.specs.Prelude.{◌≡◌, ◌≤◌, ℕ, nat_le, length, List, [], ◌∷◌, ◌++◌, codes, Option, Some, None, if◌then◌else◌}
use Rattle.std.specs.List.{AllZip}
use Rattle.base_types.specs.declared.limits.TheConstants.{LONGEST_SOURCE}
use Rattle.base_types.specs.Path.{Path, Spells}
use Rattle.tree_files.specs.declared.tree.Node.{Node}
use Rattle.tree_files.specs.declared.tree.Node.TheVariants.{File, Dir}
use Rattle.tree_files.specs.Files.{Files, node_at}
use Rattle.tree_files.specs.Count.{Rose}
use Rattle.import_words.specs.Words.{Word}
use Rattle.program_run.specs.declared.open.Opened.{Opened}
use Rattle.program_run.specs.declared.open.Opened.TheVariants as opened
use Rattle.program_run.specs.declared.open.Unopened.{Unopened}
use Rattle.program_run.specs.declared.open.Unopened.TheVariants as unopened

-- a call runs 1 to 16 scripts
abbrev pub AreFew : List Word → Type 0
AreFew scripts = (1 ≤ length scripts) × (length scripts ≤ 16)

-- a file of at most 1,048,576 bytes has a text
abbrev pub by_node : Option Node → Opened
by_node (Some (File bytes)) = if nat_le (length bytes) LONGEST_SOURCE then opened.Text bytes else opened.TooLong
by_node (Some (Dir time)) = opened.Missing
by_node None = opened.Missing

-- what the word names in these files: nothing where it is no tree path
pub data IsScript (f : Files) (word : Word) : Opened → Type 0 where
  no_path : ((path : Path) → Spells word path → ⊥) → IsScript f word opened.Missing
  at_path : (path : Path) → Spells word path → IsScript f word (by_node (node_at f path))

-- where the tree tells its files
abbrev pub Opens : Option Files → Word → Opened → Type 0
Opens None word it = Unit {0}
Opens (Some f) word it = IsScript f word it

-- each of these words names a file with its text
abbrev pub EachOpens : Option Files → List Word → List (List ℕ) → Type 0
EachOpens tree words texts = AllZip (λ word text. Opens tree word (opened.Text text)) words texts

-- why a script is not run
abbrev pub refusal_of : Word → Opened → Option (List ℕ)
refusal_of script opened.Missing = Some (codes "pyimport: cannot open script '" ++ script ++ codes "'" ++ 10 ∷ [])
refusal_of script opened.TooLong = Some (codes "pyimport: script '" ++ script ++ codes "' is too long" ++ 10 ∷ [])
refusal_of script (opened.Text text) = None

-- the line about a script, as far as there was memory to make it
abbrev pub IsLineOf : Option (List ℕ) → Unopened → Type 0
IsLineOf line (unopened.Refused it) = line ≡ Some it.items
IsLineOf line unopened.Unread = ⊥
IsLineOf line unopened.NoMemory = Unit {0}

-- why this script has no text
abbrev pub StopsAt : Option Files → Word → ℕ → ℕ → Unopened → Type 0
StopsAt tree script old new (unopened.Refused line) = (it : Opened) × Opens tree script it × (refusal_of script it ≡ Some line.items)
StopsAt tree script old new unopened.Unread = Rose old new
StopsAt tree script old new unopened.NoMemory = Unit {0}

-- the scripts are opened in their order: up to this one, each has a text
pub record Reached (tree : Option Files) (scripts : List Word) (script : Word) : Type 0 where
  pub before : List Word
  pub behind : List Word
  pub whole : scripts ≡ before ++ script ∷ behind
  pub texts : List (List ℕ)
  pub opened : EachOpens tree before texts

-- the first script without a text is no file at a tree path, or too long, and this is the line about it
pub record IsRefused (tree : Option Files) (scripts : List Word) (line : List ℕ) : Type 0 where
  pub script : Word
  pub reached : Reached tree scripts script
  pub it : Opened
  pub opens : Opens tree script it
  pub is : refusal_of script it ≡ Some line

-- the first script without a text could not be read: a call of the tree failed
pub record IsUnread (tree : Option Files) (scripts : List Word) (old new : ℕ) : Type 0 where
  pub script : Word
  pub reached : Reached tree scripts script
  pub rose : Rose old new

-- why not all scripts have a text
abbrev pub Stops : Option Files → List Word → ℕ → ℕ → Unopened → Type 0
Stops tree scripts old new (unopened.Refused line) = IsRefused tree scripts line.items
Stops tree scripts old new unopened.Unread = IsUnread tree scripts old new
Stops tree scripts old new unopened.NoMemory = Unit {0}
