use Rattle.std.proofs.Common.{◌≡◌, fold, take}
use Rattle.base_spelling.specs.Candidates as candidate
use Rattle.base_spelling.specs.declared.candidate.Reading.TheVariants as reading
use Rattle.base_spelling.proofs.candidate.digits_candidate.Given as goal

abbrev pub invariant-loop-c : goal.invariant-loop-c
invariant-loop-c l = l.d ≡ fold candidate.hex_next (candidate.began reading.High) (take l.c-index l.digits)
