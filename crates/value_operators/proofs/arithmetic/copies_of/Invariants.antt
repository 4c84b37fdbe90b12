use Rattle.std.proofs.Common.{◌≡◌}
use Rattle.value_operators.specs.Arithmetic.{copies}
use Rattle.value_operators.proofs.arithmetic.copies_of.Given as goal

abbrev pub invariant-loop : goal.invariant-loop
invariant-loop l = l.made ≡ copies l.counter l.text
