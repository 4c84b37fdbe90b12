use Rattle.std.proofs.Common.{length}
use Rattle.step_simple.proofs.built_ins.+kind_named.Given as goal

abbrev pub decreases-kind_named : goal.decreases-kind_named
decreases-kind_named l = length l.kinds.now
