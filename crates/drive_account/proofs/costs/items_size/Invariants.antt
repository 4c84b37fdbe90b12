use Rattle.std.proofs.Common.{◌≡◌, ◌+◌, ◌-◌, ◌^◌, min, map, take}
use Rattle.std.specs.List.{sum}
use Rattle.py_value.specs.Measures.{size_of}
use Rattle.drive_account.proofs.costs.items_size.Given as goal

abbrev pub invariant-loop-item : goal.invariant-loop-item
invariant-loop-item l = l.units ≡ min (l.item-index + sum (map size_of (take l.item-index l.item-items))) (2 ^ 64 - 1)
