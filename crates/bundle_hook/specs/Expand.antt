-- A tree in which bundles stand as the folders that they list.
use Rattle.std.specs.Prelude.{ℕ, Bool, false, List, [], ◌∷◌, ◌++◌, map, codes, nat_eq, Option, Some, None, if◌then◌else◌}
use Rattle.std.specs.FinMap.{entries, from_entries}
use Rattle.std.specs.List.{ends_with, flat_map}
use Rattle.std.specs.Option.{option_map}
use Rattle.base_types.specs.Path.{Path}
use Rattle.tree_files.specs.Files.{Files, node_at}
use Rattle.tree_files.specs.Edits.{prefixes}
use Rattle.tree_files.specs.declared.tree.Node.{Node}
use Rattle.tree_files.specs.declared.tree.Node.TheVariants.{File, Dir}
use Rattle.bundle_hook.specs.declared.bundle.Packed.{Packed}
use Rattle.bundle_hook.specs.Files.{files_in}

-- the name ends with `.pyb`
abbrev pub is_bundle_name : List ℕ → Bool
is_bundle_name name = ends_with nat_eq name (codes ".pyb")

-- the last part of the path does; the root has none
abbrev pub names_bundle : Path → Bool
names_bundle [] = false
names_bundle (part ∷ []) = is_bundle_name part
names_bundle (part ∷ next ∷ rest) = names_bundle (next ∷ rest)

-- the files of the bundle that the thing at a path is; None where it is no file, where its path does not name a bundle,
-- and where its bytes are none
abbrev pub bundle_in : Path → Option Node → Option (List Packed)
bundle_in path None = None
bundle_in path (Some (Dir time)) = None
bundle_in path (Some (File bytes)) = if names_bundle path then files_in bytes else None

-- the files of the bundle that stands at the path
abbrev pub bundle_at : Files → Path → Option (List Packed)
bundle_at f path = bundle_in path (node_at f path)

-- a directory with time 0
abbrev pub folder : Path → Path × Node
folder path = (path, Dir 0)

-- a file of the bundle at this path, behind a directory for each folder between
abbrev pub file_below : Path → Packed → List (Path × Node)
file_below path file = map (λ between. folder (path ++ between)) (prefixes file.path) ++ (path ++ file.path, File file.bytes) ∷ []

-- a directory that holds these files
abbrev pub holding : Path → List Packed → List (Path × Node)
holding path files = folder path ∷ flat_map (file_below path) files

-- a thing of the tree, or what replaces it where it is a bundle of these files
abbrev pub replaced : Path × Node → Option (List Packed) → List (Path × Node)
replaced thing None = thing ∷ []
replaced thing (Some files) = holding thing.0 files

-- a thing of the tree, or what replaces it; files inside a bundle are things of no tree, so they stay
abbrev pub expanded : Path × Node → List (Path × Node)
expanded thing = replaced thing (bundle_in thing.0 (Some thing.1))

-- each file whose last part ends with `.pyb` and whose bytes are a bundle is replaced by a `Dir(0)` that holds the files
-- of the bundle, with `Dir(0)` for each folder between
unfoldable pub expand : Files → Files
expand f = from_entries (flat_map expanded (entries f))

-- files that are told are told so; where none are told, none are
abbrev pub expand_told : Option Files → Option Files
expand_told told = option_map expand told
