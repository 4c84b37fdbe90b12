use Rattle.std.proofs.Common.{◌≡◌, drop}
use Rattle.value_operators.specs.Items.{among}
use Rattle.value_operators.proofs.items.among.Given as goal

abbrev pub invariant-loop-x : goal.invariant-loop-x
invariant-loop-x l = among l.x-items l.item ≡ among (drop l.x-index l.x-items) l.item
