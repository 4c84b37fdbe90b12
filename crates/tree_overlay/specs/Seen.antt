-- The fate of a path as the code keeps it.
use Rattle.tree_files.specs.declared.tree.Node.TheVariants.{File, Dir}
use Rattle.tree_overlay.specs.Fates.{Fate, Kept, Way, Put, Gone}
use Rattle.tree_overlay.specs.declared.fate.Seen.{Seen}
use Rattle.tree_overlay.specs.declared.fate.Seen.TheVariants as seen

-- which fate the code means; a file and a directory are both what was put there
abbrev pub fate_in : Seen → Fate
fate_in seen.Kept = Kept
fate_in seen.Way = Way
fate_in (seen.File bytes) = Put (File bytes.now)
fate_in (seen.Dir time) = Put (Dir time)
fate_in seen.Gone = Gone
