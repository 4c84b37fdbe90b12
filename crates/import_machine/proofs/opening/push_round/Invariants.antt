use Rattle.std.proofs.Common.{◌≡◌, ◌++◌}
use Rattle.std.specs.Prelude.{replicate}
use Rattle.import_machine.proofs.opening.push_round.Given as goal

abbrev pub invariant-loop : goal.invariant-loop
invariant-loop l = l.starts ≡ l.fn.starts ++ replicate l.counter l.first
