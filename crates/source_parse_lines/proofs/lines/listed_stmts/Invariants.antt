use Rattle.std.proofs.Common.{◌≡◌, ℕ, ◌<◌, length}
use Rattle.source_combinators.specs.Many.{many}
use Rattle.source_combinators.specs.Separated.{listed_item, begins_listed, listed}
use Rattle.source_spec_lines.specs.Lines as reading
use Rattle.source_parse_lines.specs.Views.{stmts_of}
use Rattle.source_parse_lines.proofs.lines.listed_stmts.Given as goal

abbrev pub invariant-stmts : goal.invariant-stmts
invariant-stmts l = record {
  reads : (n : ℕ) × (length l.rest < n) × (many (begins_listed reading.goes_on) (listed_item (reading.simple l.context l.room) reading.semicolon) n (stmts_of l.stmts) l.rest ≡ listed reading.goes_on (reading.simple l.context l.room) reading.semicolon l.tokens);
  shorter : length l.rest < length l.tokens;
}

abbrev pub decreases-stmts : goal.decreases-stmts
decreases-stmts l = length l.rest
