use Rattle.std.proofs.Common.{◌≡◌, map, take, false}
use Rattle.std.specs.List.{list_any}
use Rattle.meaning_script.specs.Entries.{is_unhashable}
use Rattle.step_sys.proofs.keys.+hashing.Given as goal

abbrev pub invariant-holds_unhashable-loop-item : goal.invariant-holds_unhashable-loop-item
invariant-holds_unhashable-loop-item l = list_any (λ b. b) (map is_unhashable (take l.item-index l.item-items)) ≡ false
