use Rattle.std.proofs.Common.{◌≡◌, take}
use Rattle.program_rounds.specs.Rounds.{scripts_of}
use Rattle.program_rounds.proofs.begin.scripts_of.Given as goal

abbrev pub invariant-loop-round : goal.invariant-loop-round
invariant-loop-round l = l.scripts ≡ scripts_of (take l.round-index l.rounds)
