use Rattle.std.proofs.Common.{◌≡◌, ◌++◌, drop}
use Rattle.bundle_hook.specs.Bundle.{data_of}
use Rattle.bundle_hook.proofs.write.with_data.Given as goal

abbrev pub invariant-loop-file : goal.invariant-loop-file
invariant-loop-file l = l.fn.front.items ++ data_of l.files ≡ l.out.items ++ data_of (drop l.file-index l.files)
