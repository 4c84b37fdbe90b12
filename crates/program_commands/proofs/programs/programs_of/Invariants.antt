use Rattle.std.proofs.Common.{take}
use Rattle.program_run.specs.Together.{Mean}
use Rattle.program_commands.proofs.programs.programs_of.Given as goal

abbrev pub invariant-loop-name : goal.invariant-loop-name
invariant-loop-name g l = Mean g.N.Program.run g.N.Named.means (take l.name-index l.names) l.programs.items
