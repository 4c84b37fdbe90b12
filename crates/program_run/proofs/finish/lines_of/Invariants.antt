use Rattle.std.proofs.Common.{◌≡◌, take}
use Rattle.program_run.specs.Results.{lines_by, AreWhole}
use Rattle.program_run.proofs.finish.lines_of.Given as goal

abbrev pub invariant-loop-i : goal.invariant-loop-i
invariant-loop-i l = record {
  lines : l.lines.items ≡ lines_by (take l.i l.scripts) (take l.i l.results);
  whole : AreWhole (take l.i l.results);
}
