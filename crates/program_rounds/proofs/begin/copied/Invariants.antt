use Rattle.std.proofs.Common.{◌≡◌, take}
use Rattle.program_rounds.proofs.begin.copied.Given as goal

abbrev pub invariant-loop-edit : goal.invariant-loop-edit
invariant-loop-edit l = l.copies ≡ take l.edit-index l.edits
