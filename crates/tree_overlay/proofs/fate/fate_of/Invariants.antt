use Rattle.std.proofs.Common.{◌≡◌, take}
use Rattle.tree_overlay.specs.Fates.{fate_of}
use Rattle.tree_overlay.specs.Seen.{fate_in}
use Rattle.tree_overlay.proofs.fate.fate_of.Given as goal

abbrev pub invariant-loop-edit : goal.invariant-loop-edit
invariant-loop-edit l = fate_in l.seen ≡ fate_of (take l.edit-index l.edits) l.path
