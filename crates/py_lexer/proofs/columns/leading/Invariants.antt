use Rattle.std.proofs.Common.{◌≡◌, length, ◌+◌, ◌*◌, ◌≤◌}
use Rattle.py_lexer.specs.Columns.{leading, margin}
use Rattle.py_lexer.proofs.columns.leading.Given as goal

abbrev pub invariant-white : goal.invariant-white
invariant-white l = record {
  reads : leading l.columns l.rest ≡ leading margin l.chars;
  first : l.columns.first + 8 * length l.rest ≤ 8 * length l.chars;
  second : l.columns.second + length l.rest ≤ length l.chars;
}

abbrev pub decreases-white : goal.decreases-white
decreases-white l = length l.rest
