use Rattle.std.proofs.Common.{◌≡◌, ◌++◌, take}
use Rattle.tree_overlay.proofs.forks.add_edits.Given as goal

abbrev pub invariant-loop-edit : goal.invariant-loop-edit
invariant-loop-edit l = l.edits ≡ l.fn.edits ++ take l.edit-index l.more
