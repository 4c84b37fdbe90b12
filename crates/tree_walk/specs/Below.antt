-- All files below a folder.
use Rattle.std.specs.Prelude.{ℕ, ◌-◌, List, [], ◌∷◌, length, drop, nat_le, nat_lt, sum_by, Option, Some, None, if◌then◌else◌}
use Rattle.std.specs.List.{list_all, flat_map}
use Rattle.std.specs.FinMap.{entries}
use Rattle.base_types.specs.Path.{Path, is_part}
use Rattle.tree_files.specs.Edits.{is_within}
use Rattle.tree_files.specs.Files.{Files}
use Rattle.tree_files.specs.declared.tree.Node.{Node}
use Rattle.tree_files.specs.declared.tree.Node.TheVariants.{File, Dir}
use Rattle.bundle_hook.specs.declared.bundle.Packed.{Packed}

-- how many parts a folder may lie below the one whose files are taken
abbrev pub most_parts : ℕ
most_parts = 64

-- the most bytes that all files may have together
abbrev pub most_bytes : ℕ
most_bytes = 268435456

-- what is told of a thing of the tree; of what no tree path names, nothing is
abbrev pub named : {X : Type 0} → (Path × Node → List X) → Path × Node → List X
named tell thing = if list_all is_part thing.0 then tell thing else []

-- the same, where the thing stands at the path or below it
abbrev pub within : {X : Type 0} → Path → (Path × Node → List X) → Path × Node → List X
within path tell thing = if is_within path thing.0 then named tell thing else []

-- what is told of all that stands at a path or below it, in the order of their paths, compared part by part by bytes
unfoldable pub all_within : {X : Type 0} → (Path × Node → List X) → Files → Path → List X
all_within tell f path = flat_map (within path tell) (entries f)

-- a file, with its path behind so many parts
abbrev pub file_in : ℕ → Path × Node → List Packed
file_in parts (path, File bytes) = record { path = drop parts path; bytes = bytes } ∷ []
file_in parts (path, Dir time) = []

-- a folder that lies too deep below one of so many parts
abbrev pub deep_in : ℕ → Path × Node → List Path
deep_in parts (path, File bytes) = []
deep_in parts (path, Dir time) = if nat_lt most_parts (length path - parts) then path ∷ [] else []

-- all files below a folder, with their paths below it, in the order of these
abbrev pub files_below : Files → Path → List Packed
files_below f dir = all_within (file_in (length dir)) f dir

-- the folders that lie more than 64 parts below it
abbrev pub deep_below : Files → Path → List Path
deep_below f dir = all_within (deep_in (length dir)) f dir

-- how many bytes files have together
abbrev pub bytes_in : List Packed → ℕ
bytes_in files = sum_by (λ (file : Packed). length file.bytes) files

-- files, where no folder lies too deep and they have not too many bytes together
abbrev pub if_few : List Path → List Packed → Option (List Packed)
if_few [] files = if nat_le (bytes_in files) most_bytes then Some files else None
if_few (path ∷ deep) files = None

-- what is taken of a folder: all files below it, or nothing
abbrev pub taken : Files → Path → Option (List Packed)
taken f dir = if_few (deep_below f dir) (files_below f dir)
