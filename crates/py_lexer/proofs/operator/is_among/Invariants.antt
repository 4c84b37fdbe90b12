use Rattle.std.proofs.Common.{◌≡◌, length, map}
use Rattle.py_lexer.specs.Operators.{is_among}
use Rattle.py_lexer.proofs.operator.is_among.Given as goal

abbrev pub invariant-words : goal.invariant-words
invariant-words l = is_among (map (λ w. w.now) l.left) l.text ≡ is_among (map (λ w. w.now) l.words) l.text

abbrev pub decreases-words : goal.decreases-words
decreases-words l = length l.left
