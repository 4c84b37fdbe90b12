use Rattle.std.proofs.Common.{◌≡◌, ◌+◌, ◌≤◌, length}
use Rattle.py_lexer.specs.Source.{line_ends}
use Rattle.py_lexer.proofs.source.line_ends.Given as goal

abbrev pub invariant-lines : goal.invariant-lines
invariant-lines l = record {
  reads : l.count + line_ends l.rest ≡ line_ends l.bytes;
  within : l.count + length l.rest ≤ length l.bytes;
}

abbrev pub decreases-lines : goal.decreases-lines
decreases-lines l = length l.rest
