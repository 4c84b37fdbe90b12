use Rattle.std.proofs.Common.{◌≡◌, ◌∷◌, [], ◌++◌, ◌&&◌, ◌||◌, ℕ, List, take}
use Rattle.tree_files.specs.Files.{has_name}
use Rattle.tree_overlay.specs.Fates.{fate_of}
use Rattle.tree_overlay.specs.Names.{is_seen}
use Rattle.tree_overlay.specs.Gathered.{holds}
use Rattle.tree_overlay.proofs.names.add_seen.Given as goal

abbrev pub invariant-loop-name : goal.invariant-loop-name
invariant-loop-name l = (other : List ℕ) → holds l.names other ≡ (holds l.initial.names other || (is_seen (fate_of l.edits (l.dir ++ other ∷ [])) && has_name (take l.name-index l.inner) other))
