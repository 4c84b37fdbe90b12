use Rattle.std.proofs.Common.{◌≡◌, take}
use Rattle.program_rounds.specs.Rounds.{edits_of}
use Rattle.program_rounds.proofs.begin.edits_of.Given as goal

abbrev pub invariant-loop-round : goal.invariant-loop-round
invariant-loop-round l = l.edits ≡ edits_of (take l.round-index l.rounds)
