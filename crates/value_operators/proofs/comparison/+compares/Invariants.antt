use Rattle.std.proofs.Common.{◌≡◌, ◌≤◌, map, drop, length}
use Rattle.value_operators.specs.Comparison.{order_of, compared_items}
use Rattle.value_operators.proofs.comparison.+compares.Given as goal

abbrev pub invariant-compared_items-loop-i : goal.invariant-compared_items-loop-i
invariant-compared_items-loop-i l = record {
  within : l.i ≤ length l.ys;
  rest : compared_items (map order_of l.xs) l.ys ≡ compared_items (map order_of (drop l.i l.xs)) (drop l.i l.ys);
}
