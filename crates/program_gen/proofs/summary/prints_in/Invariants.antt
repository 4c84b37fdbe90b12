use Rattle.std.proofs.Common.{◌≡◌, take}
use Rattle.std.specs.Prelude.{count_by}
use Rattle.program_gen.specs.Summary.{is_print}
use Rattle.program_gen.proofs.summary.prints_in.Given as goal

abbrev pub invariant-loop-entry : goal.invariant-loop-entry
invariant-loop-entry l = l.count ≡ count_by is_print (take l.entry-index l.history)
