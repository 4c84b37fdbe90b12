use Rattle.std.proofs.Common.{◌≡◌, length, ◌≤◌}
use Rattle.py_lexer.specs.Reading as reading
use Rattle.py_lexer.proofs.gap.after_comment.Given as goal

abbrev pub invariant-comment : goal.invariant-comment
invariant-comment l = record {
  reads : reading.after_comment l.rest ≡ reading.after_comment l.chars;
  shorter : length l.rest ≤ length l.chars;
}

abbrev pub decreases-comment : goal.decreases-comment
decreases-comment l = length l.rest
