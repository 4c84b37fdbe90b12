use Rattle.std.proofs.Common.{◌≡◌, map, take}
use Rattle.std.specs.List.{list_all}
use Rattle.machine_spec.specs.Known.{names_modules}
use Rattle.import_machine.proofs.known.+names.Given as goal

abbrev pub invariant-all_name_modules-loop-value : goal.invariant-all_name_modules-loop-value
invariant-all_name_modules-loop-value l = l.all ≡ list_all (λ b. b) (map (names_modules l.table) (take l.value-index l.value-items))
