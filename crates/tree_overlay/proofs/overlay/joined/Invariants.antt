use Rattle.std.proofs.Common.{◌≡◌, ◌++◌, take}
use Rattle.tree_overlay.proofs.overlay.joined.Given as goal

abbrev pub invariant-loop-edit : goal.invariant-loop-edit
invariant-loop-edit l = l.all ≡ l.edits ++ take l.edit-index l.more
