use Rattle.std.proofs.Common.{◌≡◌, map, take}
use Rattle.bundle_hook.specs.Bundle.{entry_of}
use Rattle.bundle_hook.proofs.write.entries_of.Given as goal

abbrev pub invariant-loop-file : goal.invariant-loop-file
invariant-loop-file l = l.entries ≡ map entry_of (take l.file-index l.files)
