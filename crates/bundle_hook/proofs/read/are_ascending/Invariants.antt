use Rattle.std.proofs.Common.{◌≡◌, ◌-◌, drop}
use Rattle.bundle_hook.specs.Reading.{ascending}
use Rattle.bundle_hook.proofs.read.are_ascending.Given as goal

abbrev pub invariant-loop-i : goal.invariant-loop-i
invariant-loop-i l = ascending l.entries ≡ ascending (drop (l.i - 1) l.entries)
