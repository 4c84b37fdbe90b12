use Rattle.std.proofs.Common.{length}
use Rattle.step_simple.proofs.built_ins.+native_named.Given as goal

abbrev pub decreases-native_named : goal.decreases-native_named
decreases-native_named l = length l.natives.now
