use Rattle.std.proofs.Common.{take}
use Rattle.program_run.specs.Together.{Mean}
use Rattle.program_run.proofs.begin.programs_of.Given as goal

abbrev pub invariant-loop-text : goal.invariant-loop-text
invariant-loop-text g l = Mean g.S.Program.run g.S.Scripts.means (take l.text-index l.texts) l.programs.items
