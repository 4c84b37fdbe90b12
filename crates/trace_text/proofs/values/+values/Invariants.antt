use Rattle.std.proofs.Common.{◌≡◌, ◌++◌, map, take}
use Rattle.trace_text.specs.Values.{with_commas, value_text}
use Rattle.trace_text.proofs.values.+values.Given as goal

abbrev pub invariant-put_with_commas-loop-n : goal.invariant-put_with_commas-loop-n
invariant-put_with_commas-loop-n l = l.more ≡ l.fn.out ++ with_commas (map value_text (take l.n l.items))
