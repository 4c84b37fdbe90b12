use Rattle.std.proofs.Common.{◌≡◌, ℕ, ◌<◌, ◌≤◌, length}
use Rattle.source_combinators.specs.Many.{many}
use Rattle.source_spec_statements.specs.Reading as reading
use Rattle.source_parse_statements.specs.Views.{names_of}
use Rattle.source_parse_statements.proofs.parameters.all_parameters.Given as goal

abbrev pub invariant-parameters : goal.invariant-parameters
invariant-parameters l = record {
  reads : (n : ℕ) × (length l.rest < n) × (many reading.begins_parameter reading.parameter n (names_of l.found) l.rest ≡ reading.parameters l.tokens);
  within : length l.rest ≤ length l.tokens;
}

abbrev pub decreases-parameters : goal.decreases-parameters
decreases-parameters l = length l.rest
