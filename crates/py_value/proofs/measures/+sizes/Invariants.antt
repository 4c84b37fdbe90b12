use Rattle.std.proofs.Common.{◌≡◌, ◌+◌, ◌-◌, ◌^◌, min, map, take}
use Rattle.std.specs.List.{sum}
use Rattle.py_value.specs.Measures.{size_of}
use Rattle.py_value.proofs.measures.+sizes.Given as goal

abbrev pub invariant-size_of_all-loop-item : goal.invariant-size_of_all-loop-item
invariant-size_of_all-loop-item l = l.size ≡ min (l.item-index + sum (map size_of (take l.item-index l.item-items))) (2 ^ 64 - 1)
