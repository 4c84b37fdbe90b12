-- What edits make of one path, whatever stands there in the tree that is edited.
use Rattle.std.specs.Prelude.{Bool, List, [], ◌∷◌, nat_eq, if◌then◌else◌, Option, Some, None}
use Rattle.std.specs.Cmp.Lexicographic.{pointwise}
use Rattle.base_types.specs.Path.{Path}
use Rattle.tree_files.specs.Files.{is_dir}
use Rattle.tree_files.specs.Edits.{is_within}
use Rattle.tree_files.specs.declared.tree.Node.{Node}
use Rattle.tree_files.specs.declared.tree.Node.TheVariants.{File, Dir}
use Rattle.tree_files.specs.declared.edit.Edit.{Edit}
use Rattle.tree_files.specs.declared.edit.Edit.TheVariants as edit

-- what becomes of one path by the edits
pub data Fate : Type 0 where
  -- what stands there stays
  Kept : Fate
  -- something was put below it: a directory stays as it is, and all else becomes one with time 0
  Way : Fate
  -- this was put there
  Put : (node : Node) → Fate
  -- nothing stands there
  Gone : Fate

-- what stands at the path after this fate, by what stood there before
abbrev pub node_by : Fate → Option Node → Option Node
node_by Kept before = before
node_by Way before = if is_dir before then before else Some (Dir 0)
node_by (Put node) before = Some node
node_by Gone before = None

-- the same parts in the same order
abbrev pub is_same : Path → Path → Bool
is_same p q = pointwise (pointwise nat_eq) p q

-- after something was put below the path
abbrev pub way : Fate → Fate
way Kept = Way
way Way = Way
way (Put (Dir time)) = Put (Dir time)
way (Put (File bytes)) = Put (Dir 0)
way Gone = Put (Dir 0)

-- after one edit more
abbrev pub after : Edit → Path → Fate → Fate
after (edit.File at bytes) p fate = if is_same at p then Put (File bytes) else (if is_within at p then Gone else (if is_within p at then way fate else fate))
after (edit.Dir at time) p fate = if is_same at p then Put (Dir time) else (if is_within p at then way fate else fate)
after (edit.Remove at) p fate = if is_within at p then Gone else fate

-- the edits one after another, on a path that already had a fate
abbrev pub fate_from : Fate → List Edit → Path → Fate
fate_from fate [] p = fate
fate_from fate (e ∷ es) p = fate_from (after e p fate) es p

-- what the edits make of the path, one after another
abbrev pub fate_of : List Edit → Path → Fate
fate_of es p = fate_from Kept es p
