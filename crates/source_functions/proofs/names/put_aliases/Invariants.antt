use Rattle.std.proofs.Common.{◌≡◌, ◌++◌, take}
use Rattle.source_functions.specs.Binding.{aliases_names}
use Rattle.source_functions.proofs.names.put_aliases.Given as goal

abbrev pub invariant-loop-alias : goal.invariant-loop-alias
invariant-loop-alias l = l.names ≡ l.initial.names ++ aliases_names (take l.alias-index l.alias-items)
