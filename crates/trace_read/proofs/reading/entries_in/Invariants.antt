use Rattle.std.proofs.Common.{◌≡◌, ◌+◌, [], ◌∷◌, ◌++◌, drop}
use Rattle.trace_fields.specs.Splitting.{views}
use Rattle.trace_read.specs.Reading.{entries_in}
use Rattle.trace_read.proofs.Steps.{with_front}
use Rattle.trace_read.proofs.reading.entries_in.Given as goal

abbrev pub invariant-loop-i : goal.invariant-loop-i
invariant-loop-i l = entries_in l.old 2 (views l.lines ++ l.rest ∷ []) ≡ with_front l.entries (entries_in l.old (l.i + 2) (drop l.i (views l.lines) ++ l.rest ∷ []))
