use Rattle.std.proofs.Common.{◌≡◌, ◌++◌}
use Rattle.source_parse_statements.proofs.lists.joined.Given as goal

abbrev pub invariant-loop-item : goal.invariant-loop-item
invariant-loop-item g l = l.all ≡ l.fn.found ++ l.yielded
