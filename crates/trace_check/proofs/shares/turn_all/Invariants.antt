use Rattle.std.proofs.Common.{◌≡◌, ◌<◌, ◌≤◌, ℕ, [], length, get_or}
use Rattle.std.specs.Prelude.{reverse}
use Rattle.trace_check.proofs.shares.turn_all.Given as goal

abbrev pub invariant-loop-t : goal.invariant-loop-t
invariant-loop-t l = record {
  many : length l.lists ≡ length l.fn.lists;
  before : (u : ℕ) → u < l.t → get_or l.lists u [] ≡ reverse (get_or l.fn.lists u []);
  behind : (u : ℕ) → l.t ≤ u → get_or l.lists u [] ≡ get_or l.fn.lists u [];
}
