use Rattle.std.proofs.Common.{◌≡◌, ◌-◌, ◌^◌, min, map, take}
use Rattle.py_value.specs.Measures.{most, nesting_of}
use Rattle.py_value.proofs.measures.+nestings.Given as goal

abbrev pub invariant-most_nesting_of-loop-item : goal.invariant-most_nesting_of-loop-item
invariant-most_nesting_of-loop-item l = l.deepest ≡ min (most (map nesting_of (take l.item-index l.item-items))) (2 ^ 64 - 1)
