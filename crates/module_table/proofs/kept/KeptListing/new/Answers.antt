use Rattle.std.proofs.Common.{subst}
use Rattle.module_table.specs.Names.{Rise}
use Rattle.module_table.proofs.Halves.{rises}
use Rattle.module_table.proofs.kept.KeptListing.new.Goals as goal

pub invariant_of-result : goal.invariant_of-result
invariant_of-result c = λ is. subst Rise c.as_slice.ensures (rises _ _ c.is_sorted-is_sorted.ensures.cases is)
