use Rattle.std.proofs.Common.{◌≡◌, drop}
use Rattle.step_calls.specs.Lines.{continued}
use Rattle.step_calls.proofs.print.continued.Given as goal

abbrev pub invariant-loop-value : goal.invariant-loop-value
invariant-loop-value l = continued l.initial.line l.values ≡ continued l.line (drop l.value-index l.values)
