use Rattle.std.proofs.Common.{◌≡◌, take}
use Rattle.base_types.proofs.exact.SeqExact.copy.Given as goal

abbrev pub invariant-loop-item : goal.invariant-loop-item
invariant-loop-item g l = l.copies ≡ take l.item-index l.item-items
