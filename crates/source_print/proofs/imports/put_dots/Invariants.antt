use Rattle.std.proofs.Common.{◌≡◌, ◌++◌}
use Rattle.source_print.specs.Statements.{dots}
use Rattle.source_print.proofs.imports.put_dots.Given as goal

abbrev pub invariant-loop-n : goal.invariant-loop-n
invariant-loop-n l = l.out ≡ l.initial.out ++ dots l._n
