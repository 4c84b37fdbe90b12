use Rattle.std.proofs.Common.{◌≡◌, take}
use Rattle.machine_spec.specs.Opening.{round_starts}
use Rattle.import_machine.proofs.Openings.{thread_after}
use Rattle.import_machine.proofs.opening.round_starts.Given as goal

abbrev pub invariant-loop-size : goal.invariant-loop-size
invariant-loop-size l = record {
  starts : l.starts ≡ round_starts 0 (take l.size-index l.sizes);
  first : l.first ≡ thread_after 0 (take l.size-index l.sizes);
}
