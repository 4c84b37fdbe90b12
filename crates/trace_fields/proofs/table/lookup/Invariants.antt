use Rattle.std.proofs.Common.{◌≡◌, drop}
use Rattle.trace_fields.specs.Fields.{lookup, rows_of}
use Rattle.trace_fields.proofs.table.lookup.Given as goal

abbrev pub invariant-loop-row : goal.invariant-loop-row
invariant-loop-row g l = lookup l.field (rows_of l.rows) ≡ lookup l.field (rows_of (drop l.row-index l.rows))
