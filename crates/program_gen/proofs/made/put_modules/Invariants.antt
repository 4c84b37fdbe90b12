use Rattle.std.proofs.Common.{◌≡◌}
use Rattle.tree_files.specs.MemFiles.{mem_files}
use Rattle.program_gen.specs.Generator.{IsFlat, before_module, with_modules}
use Rattle.program_gen.proofs.made.put_modules.Given as goal

abbrev pub invariant-loop-number : goal.invariant-loop-number
invariant-loop-number l = record {
  files : mem_files l.tree.nodes ≡ with_modules l.number l.fn.draws.state;
  flat : IsFlat (mem_files l.tree.nodes);
  state : l.draws.state ≡ before_module l.number l.fn.draws.state;
  faults : l.tree.faults ≡ l.fn.tree.faults;
  lists : l.tree.lists ≡ l.fn.tree.lists;
  due : l.tree.due ≡ l.fn.tree.due;
}
