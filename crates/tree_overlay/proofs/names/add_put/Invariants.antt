use Rattle.std.proofs.Common.{◌≡◌, ◌∷◌, [], ◌++◌, ◌&&◌, ◌||◌, ℕ, List, take}
use Rattle.tree_files.specs.Files.{has_name}
use Rattle.tree_overlay.specs.Fates.{fate_of}
use Rattle.tree_overlay.specs.Names.{is_put, put_names}
use Rattle.tree_overlay.specs.Gathered.{holds}
use Rattle.tree_overlay.proofs.names.add_put.Given as goal

abbrev pub invariant-loop-edit : goal.invariant-loop-edit
invariant-loop-edit l = (other : List ℕ) → holds l.names other ≡ (holds l.initial.names other || (is_put (fate_of l.edits (l.dir ++ other ∷ [])) && has_name (put_names l.dir (take l.edit-index l.edits)) other))
