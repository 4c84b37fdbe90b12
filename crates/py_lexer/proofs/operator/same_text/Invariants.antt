use Rattle.std.proofs.Common.{◌≡◌, length}
use Rattle.py_lexer.specs.Operators.{same_text}
use Rattle.py_lexer.proofs.operator.same_text.Given as goal

abbrev pub invariant-same : goal.invariant-same
invariant-same l = same_text l.text l.word ≡ same_text l.fn.text l.fn.word

abbrev pub decreases-same : goal.decreases-same
decreases-same l = length l.text
