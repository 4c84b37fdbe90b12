use Rattle.std.proofs.Common.{◌≡◌, ◌++◌}
use Rattle.bundle_hook.proofs.inside.listed.Given as goal

abbrev pub invariant-loop-name : goal.invariant-loop-name
invariant-loop-name l = l.listed ++ l.name-iterator ≡ l.names.keys
