use Rattle.std.proofs.Common.{◌≡◌, ℕ, List, take}
use Rattle.py_syntax.specs.Statements.{is_among}
use Rattle.source_functions.proofs.function.set_of.Given as goal

abbrev pub invariant-loop-name : goal.invariant-loop-name
invariant-loop-name l = (n : List ℕ) → is_among n l.set.keys ≡ is_among n (take l.name-index l.name-items)
