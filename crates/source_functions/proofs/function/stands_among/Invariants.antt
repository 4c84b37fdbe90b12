use Rattle.std.proofs.Common.{◌≡◌, false, take}
use Rattle.py_syntax.specs.Statements.{is_among}
use Rattle.source_functions.proofs.function.stands_among.Given as goal

abbrev pub invariant-loop-other : goal.invariant-loop-other
invariant-loop-other l = is_among l.name (take l.other-index l.names) ≡ false
