-- What stands in a bundle, looked up by the path below it.
use Rattle.std.specs.Prelude.{List, [], ◌∷◌, Option, Some, None, if◌then◌else◌}
use Rattle.base_types.specs.Path.{Path}
use Rattle.tree_files.specs.Edits.{is_within}
use Rattle.tree_files.specs.declared.tree.Node.{Node}
use Rattle.tree_files.specs.declared.tree.Node.TheVariants.{File, Dir}
use Rattle.tree_overlay.specs.Fates.{is_same}
use Rattle.bundle_hook.specs.declared.bundle.Packed.{Packed}

-- a file where the path is that of one, and a directory where the path is on the way to one
abbrev pub node_among : List Packed → Path → Option Node
node_among [] path = None
node_among (file ∷ files) path = if is_same file.path path then Some (File file.bytes) else (if is_within path file.path then Some (Dir 0) else node_among files path)

-- the bundle itself is a directory, even where it has no file
abbrev pub node_inside : List Packed → Path → Option Node
node_inside files [] = Some (Dir 0)
node_inside files (part ∷ path) = node_among files (part ∷ path)
