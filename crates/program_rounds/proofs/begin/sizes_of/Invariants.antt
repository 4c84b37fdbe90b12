use Rattle.std.proofs.Common.{◌≡◌, take}
use Rattle.program_rounds.specs.Rounds.{sizes_of}
use Rattle.program_rounds.proofs.begin.sizes_of.Given as goal

abbrev pub invariant-loop-round : goal.invariant-loop-round
invariant-loop-round l = l.sizes ≡ sizes_of (take l.round-index l.rounds)
