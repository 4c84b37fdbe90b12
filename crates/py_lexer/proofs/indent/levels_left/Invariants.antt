use Rattle.std.proofs.Common.{◌≡◌, length, ◌≤◌}
use Rattle.py_lexer.specs.Stack.{kept}
use Rattle.py_lexer.proofs.indent.levels_left.Given as goal

abbrev pub invariant-levels : goal.invariant-levels
invariant-levels l = record {
  within : l.left ≤ length l.stack;
  value : kept l.stack l.at l.left ≡ kept l.stack l.at (length l.stack);
}

abbrev pub decreases-levels : goal.decreases-levels
decreases-levels l = l.left
