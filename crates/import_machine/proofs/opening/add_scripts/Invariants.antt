use Rattle.std.proofs.Common.{◌≡◌, ◌++◌, take, length}
use Rattle.machine_spec.specs.Opening.{script_objects}
use Rattle.import_machine.proofs.opening.add_scripts.Given as goal

abbrev pub invariant-loop-script : goal.invariant-loop-script
invariant-loop-script l = record {
  table : l.table ≡ record l.fn.table { objects = l.fn.table.objects ++ script_objects 0 (take l.script-index l.script-items) };
  number : l.number ≡ length (take l.script-index l.script-items);
}
