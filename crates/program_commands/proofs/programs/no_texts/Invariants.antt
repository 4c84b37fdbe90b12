use Rattle.std.proofs.Common.{◌≡◌, take}
use Rattle.program_commands.specs.Modules.{no_texts}
use Rattle.program_commands.proofs.programs.no_texts.Given as goal

abbrev pub invariant-loop-name : goal.invariant-loop-name
invariant-loop-name l = l.texts ≡ no_texts (take l.name-index l.names)
