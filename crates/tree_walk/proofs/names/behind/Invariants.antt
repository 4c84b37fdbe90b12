use Rattle.std.proofs.Common.{◌≡◌, take, drop}
use Rattle.tree_walk.proofs.names.behind.Given as goal

abbrev pub invariant-loop-part : goal.invariant-loop-part
invariant-loop-part l = l.rest ≡ take l.part-index (drop l.first l.path)
