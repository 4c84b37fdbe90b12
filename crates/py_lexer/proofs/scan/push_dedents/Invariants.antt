use Rattle.std.proofs.Common.{◌≡◌, ◌++◌}
use Rattle.py_lexer.specs.TokenList.{dedents}
use Rattle.py_lexer.specs.Scanning.{}
use Rattle.py_lexer.proofs.scan.push_dedents.Given as goal

abbrev pub invariant-levels : goal.invariant-levels
invariant-levels l = l.out ++ dedents l.left l.line ≡ l.initial.out ++ dedents l.count l.line

abbrev pub decreases-levels : goal.decreases-levels
decreases-levels l = l.left
