-- The names in a directory after edits.
use Rattle.std.specs.Prelude.{ℕ, Bool, true, false, List, [], ◌∷◌, ◌++◌, ◌≡◌, ◌&&◌, ◌||◌, nat_eq, if◌then◌else◌, Option, Some, None}
use Rattle.std.specs.List.{filter_map}
use Rattle.std.specs.Cmp.Lexicographic.{pointwise, slice_cmp}
use Rattle.base_types.specs.Path.{Path}
use Rattle.tree_files.specs.declared.edit.Edit.{Edit}
use Rattle.tree_files.specs.declared.edit.Edit.TheVariants as edit
use Rattle.std.specs.Ordering.{nat_cmp}
use Rattle.std.specs.List.Sorted.{IsStrictlySortedBy}
use Rattle.tree_files.specs.Files.{has_name}
use Rattle.tree_files.specs.declared.tree.Node.TheVariants.{File, Dir}
use Rattle.tree_overlay.specs.Fates.{Fate, Kept, Way, Put, Gone, fate_of}

-- the part of a path that follows a directory
abbrev pub part_after : Path → Path → Option (List ℕ)
part_after [] [] = None
part_after [] (part ∷ rest) = Some part
part_after (above ∷ dir) [] = None
part_after (above ∷ dir) (part ∷ rest) = if pointwise nat_eq above part then part_after dir rest else None

-- where the edit puts something, or what it removes with all below it
abbrev pub path_of : Edit → Path
path_of (edit.File at bytes) = at
path_of (edit.Dir at time) = at
path_of (edit.Remove at) = at

-- something stands there whatever stood there before
abbrev pub is_put : Fate → Bool
is_put Kept = false
is_put Way = true
is_put (Put node) = true
is_put Gone = false

-- what stood there before is still seen
abbrev pub is_seen : Fate → Bool
is_seen Gone = false
is_seen Kept = true
is_seen Way = true
is_seen (Put node) = true

-- no directory stands there whatever stood there before
abbrev pub is_no_dir : Fate → Bool
is_no_dir Kept = false
is_no_dir Way = false
is_no_dir (Put (Dir time)) = false
is_no_dir (Put (File bytes)) = true
is_no_dir Gone = true

-- the names in the directory of which the edits speak
abbrev pub put_names : Path → List Edit → List (List ℕ)
put_names dir es = filter_map (λ e. part_after dir (path_of e)) es

-- the names in the directory after the edits, where these stand there before, in the order of their bytes and each once
pub record IsMerged (es : List Edit) (dir : Path) (inner names : List (List ℕ)) : Type 0 where
  pub ordered : IsStrictlySortedBy (slice_cmp nat_cmp) names
  pub exact : (name : List ℕ) → has_name names name ≡ ((is_seen (fate_of es (dir ++ name ∷ [])) && has_name inner name) || (is_put (fate_of es (dir ++ name ∷ [])) && has_name (put_names dir es) name))
