use Rattle.std.proofs.Common.{◌≡◌, ◌++◌, take}
use Rattle.source_print.specs.Statements.{aliases}
use Rattle.source_print.proofs.imports.put_aliases.Given as goal

abbrev pub invariant-loop-n : goal.invariant-loop-n
invariant-loop-n l = l.out ≡ l.initial.out ++ aliases (take l.n l.aliases)
