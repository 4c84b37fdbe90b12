use Rattle.std.proofs.Common.{◌≡◌, ◌++◌, take, length}
use Rattle.machine_spec.specs.Opening.{script_loads}
use Rattle.import_machine.proofs.opening.add_bodies.Given as goal

abbrev pub invariant-loop-text : goal.invariant-loop-text
invariant-loop-text l = record {
  table : l.table ≡ record l.fn.table { loads = l.fn.table.loads ++ script_loads 0 (take l.text-index l.text-items) };
  number : l.number ≡ length (take l.text-index l.text-items);
}
