use Rattle.std.proofs.Common.{◌≡◌, take}
use Rattle.base_types.proofs.path.front_of.Given as goal

abbrev pub invariant-loop-part : goal.invariant-loop-part
invariant-loop-part l = l.front ≡ take l.part-index l.part-items
