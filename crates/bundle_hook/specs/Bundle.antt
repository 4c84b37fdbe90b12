-- Which bytes are a bundle, and of which files.
use Rattle.std.specs.Prelude.{◌≡◌, ◌≤◌, ℕ, ◌+◌, List, [], ◌∷◌, ◌++◌, length, map, take, drop, ⊤, Option, MatchOption}
use Rattle.std.specs.List.{AllByRecursion}
use Rattle.bundle_hook.specs.declared.entry.Entry.{Entry}
use Rattle.bundle_hook.specs.declared.bundle.Packed.{Packed}
use Rattle.bundle_hook.specs.declared.bundle.Item.{Item}
use Rattle.bundle_hook.specs.declared.bundle.Index.{Index}
use Rattle.bundle_hook.specs.Spelling.{most_files, most_front, front_of, IsEntry, Ascend}

-- what a line says of a file: its path, and how many bytes it has
abbrev pub entry_of : Packed → Entry
entry_of file = record { path = file.path; size = length file.bytes }

-- what the lines say of the files
abbrev pub entries_of : List Packed → List Entry
entries_of files = map entry_of files

-- the files' bytes in order and nothing more
abbrev pub data_of : List Packed → List ℕ
data_of [] = []
data_of (file ∷ files) = file.bytes ++ data_of files

-- these can be the lines of a bundle
pub record AreEntries (entries : List Entry) : Type 0 where
  pub few : length entries ≤ most_files
  pub each : AllByRecursion IsEntry entries
  pub ascend : Ascend entries

-- the bytes are a bundle of these files
pub record IsBundle (files : List Packed) (bytes : List ℕ) : Type 0 where
  pub entries : AreEntries (entries_of files)
  pub short : length (front_of (entries_of files)) ≤ most_front
  pub whole : bytes ≡ front_of (entries_of files) ++ data_of files

-- some bundle can begin with the front of these entries
abbrev pub CanBegin : List Entry → Type 0
CanBegin es = AreEntries es × (length (front_of es) ≤ most_front)

-- how many bytes the files have together
abbrev pub sizes : List Entry → ℕ
sizes [] = 0
sizes (e ∷ es) = e.size + sizes es

-- the files in order, each with its path, its place and its size, where the first begins at this place
abbrev pub items_from : ℕ → List Entry → List Item
items_from at [] = []
items_from at (e ∷ es) = record { path = e.path; at = at; size = e.size } ∷ items_from (at + e.size) es

-- the index lists the files, with the places of their bytes
abbrev pub index_of : List Entry → Index
index_of es = record { head = length (front_of es); items = items_from (length (front_of es)) es }

-- the first bytes of a file of this size, as many as the front of a bundle may have, or all of a shorter one
abbrev pub IsFrontOf : List ℕ → ℕ → List ℕ → Type 0
IsFrontOf front size bytes = (front ≡ take most_front bytes) × (size ≡ length bytes)

-- the index is that of the files of a bundle
abbrev pub Lists : Index → List ℕ → Type 0
Lists index bytes = (files : List Packed) × IsBundle files bytes × (index ≡ index_of (entries_of files))

-- the answer of `read_index`: Some exactly where a file that begins so is a bundle, and then with its index
abbrev pub Reads : List ℕ → ℕ → Option Index → Type 0
Reads front size o = (bytes : List ℕ) → IsFrontOf front size bytes → MatchOption o ((files : List Packed) → IsBundle files bytes → ⊥) (λ index. Lists index bytes)

-- each file's item has its path, and its bytes stand where the item says
abbrev pub StandIn : List ℕ → List Packed → List Item → Type 0
StandIn bytes [] [] = ⊤
StandIn bytes (file ∷ files) (item ∷ items) = (item.path ≡ file.path) × (take item.size (drop item.at bytes) ≡ file.bytes) × StandIn bytes files items
StandIn bytes files items = ⊥
