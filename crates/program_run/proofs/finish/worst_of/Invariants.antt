use Rattle.std.proofs.Common.{◌≡◌, take}
use Rattle.program_run.specs.Results.{worst_by}
use Rattle.program_run.proofs.finish.worst_of.Given as goal

abbrev pub invariant-loop-came : goal.invariant-loop-came
invariant-loop-came l = l.worst ≡ worst_by (take l.came-index l.results)
