use Rattle.std.proofs.Common.{◌≡◌, ◌++◌, map, take}
use Rattle.base_spelling.specs.Spelling.{quoted}
use Rattle.trace_text.specs.Values.{with_commas}
use Rattle.trace_text.proofs.values.put_texts_with_commas.Given as goal

abbrev pub invariant-loop-n : goal.invariant-loop-n
invariant-loop-n l = l.more ≡ l.fn.out ++ with_commas (map quoted (take l.n l.texts))
