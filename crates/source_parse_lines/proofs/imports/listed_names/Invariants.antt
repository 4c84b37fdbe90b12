use Rattle.std.proofs.Common.{◌≡◌, ℕ, ◌<◌, length}
use Rattle.source_combinators.specs.Many.{many}
use Rattle.source_combinators.specs.Separated.{listed_item, begins_listed, listed}
use Rattle.source_spec_lines.specs.Expressions as expressions
use Rattle.source_spec_lines.specs.Lines as reading
use Rattle.source_parse_lines.specs.Views.{items_of}
use Rattle.source_parse_lines.proofs.imports.listed_names.Given as goal

abbrev pub invariant-names : goal.invariant-names
invariant-names l = record {
  reads : (n : ℕ) × (length l.rest < n) × (many (begins_listed reading.name_ahead) (listed_item reading.item expressions.comma) n (items_of l.items) l.rest ≡ listed reading.name_ahead reading.item expressions.comma l.tokens);
  shorter : length l.rest < length l.tokens;
}

abbrev pub decreases-names : goal.decreases-names
decreases-names l = length l.rest
