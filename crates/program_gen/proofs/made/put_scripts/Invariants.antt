use Rattle.std.proofs.Common.{◌≡◌}
use Rattle.tree_files.specs.MemFiles.{mem_files}
use Rattle.program_gen.specs.Generator.{IsFlat, before_script, script_files, with_scripts}
use Rattle.program_gen.proofs.made.put_scripts.Given as goal

abbrev pub invariant-loop-script : goal.invariant-loop-script
invariant-loop-script l = record {
  names : l.files ≡ script_files l.script;
  files : mem_files l.tree.nodes ≡ with_scripts (mem_files l.fn.tree.nodes) l.modules l.script l.fn.draws.state;
  flat : IsFlat (mem_files l.tree.nodes);
  state : l.draws.state ≡ before_script l.script l.fn.draws.state;
  faults : l.tree.faults ≡ l.fn.tree.faults;
  lists : l.tree.lists ≡ l.fn.tree.lists;
  due : l.tree.due ≡ l.fn.tree.due;
}
