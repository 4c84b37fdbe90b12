use Rattle.std.proofs.Common.{◌≡◌, take}
use Rattle.meaning_script.specs.Statements.{takes_any}
use Rattle.step_compound.proofs.kinds.takes_any.Given as goal

abbrev pub invariant-loop-value : goal.invariant-loop-value
invariant-loop-value l = l.found ≡ takes_any l.kind (take l.value-index l.value-items)
