-- Each folder of a report is listed once.
use Rattle.std.proofs.Common.{◌≡◌, ◌-◌, refl, ℕ, Bool, true, false, [], ◌∷◌, length, inl, inr, if◌then◌else◌}
use Rattle.std.specs.Prelude.{◌⊎◌, nat_le}
use Rattle.std.specs.List.Sorted.{IsStrictlySortedBy}
use Rattle.base_types.specs.Path.{Path, path_cmp}
use Rattle.tree_files.specs.Files.{Files}
use Rattle.tree_files.specs.declared.tree.Node.{Node}
use Rattle.tree_files.specs.declared.tree.Node.TheVariants.{File, Dir}
use Rattle.tree_walk.specs.Below.{most_parts}
use Rattle.tree_walk.proofs.Splitting.{IsItsPath, all_within-rises}
use Rattle.import_report.specs.Reports.{entered, report_folders}

by_depth : (b : Bool) (at : Path) → ((if b then at ∷ [] else []) ≡ []) ⊎ ((if b then at ∷ [] else []) ≡ at ∷ [])
by_depth true at = inr refl
by_depth false at = inl refl

its_path : (parts : ℕ) (thing : Path × Node) → IsItsPath (entered parts) thing
its_path parts (at, File bytes) = inl refl
its_path parts (at, Dir time) = by_depth (nat_le (length at - parts) most_parts) at

pub folders_rise : (f : Files) (dir : Path) → IsStrictlySortedBy path_cmp (report_folders f dir)
folders_rise f dir = all_within-rises (entered (length dir)) f dir (its_path (length dir))
