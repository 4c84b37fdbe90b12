use Rattle.std.proofs.Common.{◌≡◌, ℕ, ◌<◌, ◌≤◌, length}
use Rattle.source_combinators.specs.Many.{many}
use Rattle.source_spec_statements.specs.Reading as reading
use Rattle.source_parse_statements.proofs.globals.globals.Given as goal

abbrev pub invariant-lines : goal.invariant-lines
invariant-lines l = record {
  reads : (n : ℕ) × (length l.rest < n) × (many reading.global_ahead (reading.next_global l.parameters) n l.found l.rest ≡ reading.globals l.parameters l.tokens);
  within : length l.rest ≤ length l.tokens;
}

abbrev pub decreases-lines : goal.decreases-lines
decreases-lines l = length l.rest
