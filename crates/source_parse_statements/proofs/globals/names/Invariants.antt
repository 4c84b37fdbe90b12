use Rattle.std.proofs.Common.{◌≡◌, ℕ, ◌<◌, length}
use Rattle.source_combinators.specs.Many.{many}
use Rattle.source_combinators.specs.Separated.{next_item, separated}
use Rattle.source_spec_lines.specs.Lines as lines
use Rattle.source_spec_statements.specs.Reading as reading
use Rattle.source_parse_statements.proofs.globals.names.Given as goal

abbrev pub invariant-names : goal.invariant-names
invariant-names l = record {
  reads : (n : ℕ) × (length l.rest < n) × (many (λ found. lines.comma_ahead) (next_item (reading.fresh l.parameters)) n l.found l.rest ≡ separated lines.comma_ahead (reading.fresh l.parameters) l.tokens);
  shorter : length l.rest < length l.tokens;
}

abbrev pub decreases-names : goal.decreases-names
decreases-names l = length l.rest
