use Rattle.std.proofs.Common.{◌≡◌, ◌++◌, take}
use Rattle.std.specs.List.{flat_map}
use Rattle.trace_text.specs.Trace.{line}
use Rattle.trace_text.proofs.trace.put_entries.Given as goal

abbrev pub invariant-loop-entry : goal.invariant-loop-entry
invariant-loop-entry l = l.more ≡ l.fn.out ++ flat_map line (take l.entry-index l.entries)
