use Rattle.std.proofs.Common.{◌≡◌, ◌++◌, drop, codes}
use Rattle.bundle_hook.specs.Spelling.{lines_of}
use Rattle.bundle_hook.proofs.write.front_of.Given as goal

abbrev pub invariant-loop-entry : goal.invariant-loop-entry
invariant-loop-entry l = codes "PYB1\n" ++ lines_of l.entries ≡ l.out.items ++ lines_of (drop l.entry-index l.entries)
