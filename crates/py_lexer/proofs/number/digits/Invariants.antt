use Rattle.std.proofs.Common.{◌≡◌, length, false}
use Rattle.py_lexer.specs.Reading as reading
use Rattle.py_lexer.proofs.number.digits.Given as goal

abbrev pub invariant-digits : goal.invariant-digits
invariant-digits l = reading.digits l.joint l.value l.rest ≡ reading.digits false l.fn.first l.chars

abbrev pub decreases-digits : goal.decreases-digits
decreases-digits l = length l.rest
