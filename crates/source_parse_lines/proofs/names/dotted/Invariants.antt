use Rattle.std.proofs.Common.{◌≡◌, ℕ, ◌<◌, length}
use Rattle.source_combinators.specs.Many.{many}
use Rattle.source_combinators.specs.Separated.{next_item}
use Rattle.source_spec_lines.specs.Lines as reading
use Rattle.source_parse_lines.proofs.names.dotted.Given as goal

abbrev pub invariant-parts : goal.invariant-parts
invariant-parts l = record {
  reads : (n : ℕ) × (length l.rest < n) × (many (λ found. reading.dot_ahead) (next_item reading.name) n l.parts l.rest ≡ reading.dotted l.tokens);
  shorter : length l.rest < length l.tokens;
}

abbrev pub decreases-parts : goal.decreases-parts
decreases-parts l = length l.rest
