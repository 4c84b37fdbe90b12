use Rattle.std.proofs.Common.{◌≡◌, ◌≤◌, ◌+◌, length, vec_len, vec_capacity}
use mathlib.Core.List.{IsPrefix}
use Rattle.drive_round.specs.Workers.{AllSeated}
use Rattle.drive_round.proofs.round.seat_all.Given as goal

abbrev pub invariant-loop-pass : goal.invariant-loop-pass
invariant-loop-pass g l = record {
  passes : IsPrefix l.passes.items l.fn.passes.items;
  programs : IsPrefix l.programs.items l.fn.programs.items;
  forks : IsPrefix l.forks.items l.fn.forks.items;
  same : length l.programs.items ≡ length l.passes.items;
  same_forks : length l.forks.items ≡ length l.passes.items;
  count : length l.workers.items + length l.passes.items ≡ length l.fn.passes.items;
  room : length l.fn.passes.items ≤ vec_capacity l.workers;
  seated : AllSeated l.fn.passes.items l.fn.programs.items l.fn.forks.items l.fn.from l.workers.items;
}

abbrev pub decreases-loop-pass : goal.decreases-loop-pass
decreases-loop-pass g l = vec_len l.passes
