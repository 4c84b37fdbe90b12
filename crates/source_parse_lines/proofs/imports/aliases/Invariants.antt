use Rattle.std.proofs.Common.{◌≡◌, ℕ, ◌<◌, length}
use Rattle.source_combinators.specs.Many.{many}
use Rattle.source_combinators.specs.Separated.{next_item, separated}
use Rattle.source_spec_lines.specs.Lines as reading
use Rattle.source_parse_lines.proofs.imports.aliases.Given as goal

abbrev pub invariant-aliases : goal.invariant-aliases
invariant-aliases l = record {
  reads : (n : ℕ) × (length l.rest < n) × (many (λ found. reading.comma_ahead) (next_item reading.alias) n l.found l.rest ≡ separated reading.comma_ahead reading.alias l.tokens);
  shorter : length l.rest < length l.tokens;
}

abbrev pub decreases-aliases : goal.decreases-aliases
decreases-aliases l = length l.rest
