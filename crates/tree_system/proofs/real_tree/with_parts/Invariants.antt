use Rattle.std.proofs.Common.{◌≡◌, take}
use Rattle.tree_system.specs.Systems.{with_parts}
use Rattle.tree_system.proofs.real_tree.with_parts.Given as goal

abbrev pub invariant-loop-part : goal.invariant-loop-part
invariant-loop-part l = l.name ≡ with_parts l.folder (take l.part-index l.path)
