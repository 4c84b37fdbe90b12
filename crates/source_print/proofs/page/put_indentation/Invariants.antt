use Rattle.std.proofs.Common.{◌≡◌, ◌++◌}
use Rattle.source_print.specs.Text.{indentation}
use Rattle.source_print.proofs.page.put_indentation.Given as goal

abbrev pub invariant-loop-level : goal.invariant-loop-level
invariant-loop-level l = l.more ≡ l.fn.out ++ indentation l._level
