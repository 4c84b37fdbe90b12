use Rattle.std.proofs.Common.{◌≡◌, ℕ, ◌<◌, ◌≤◌, length}
use Rattle.source_combinators.specs.Many.{many}
use Rattle.source_spec_lines.specs.Lines as reading
use Rattle.source_parse_lines.proofs.sources.dots.Given as goal

abbrev pub invariant-dots : goal.invariant-dots
invariant-dots l = record {
  reads : (n : ℕ) × (length l.rest < n) × (many reading.dots_ahead reading.more_dots n l.count l.rest ≡ reading.dots l.tokens);
  within : length l.rest ≤ length l.tokens;
}

abbrev pub decreases-dots : goal.decreases-dots
decreases-dots l = length l.rest
