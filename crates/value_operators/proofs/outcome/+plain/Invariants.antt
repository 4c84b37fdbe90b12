use Rattle.std.proofs.Common.{◌≡◌, map, take, true}
use Rattle.std.specs.List.{list_all}
use Rattle.value_operators.specs.Outcomes.{is_plain}
use Rattle.value_operators.proofs.outcome.+plain.Given as goal

abbrev pub invariant-are_plain-loop-item : goal.invariant-are_plain-loop-item
invariant-are_plain-loop-item l = list_all (λ b. b) (map is_plain (take l.item-index l.item-items)) ≡ true
