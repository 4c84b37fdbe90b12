use Rattle.std.proofs.Common.{◌≡◌, ℕ, ◌<◌, [], length}
use Rattle.source_combinators.specs.Many.{many, rounds}
use Rattle.py_syntax.specs.Contexts.{top}
use Rattle.source_spec_statements.specs.Reading as reading
use Rattle.source_parse_statements.specs.Views.{stmts_of}
use Rattle.source_parse_statements.proofs.scripts.top_stmts.Given as goal

abbrev pub invariant-stmts : goal.invariant-stmts
invariant-stmts l = (n : ℕ) × (length l.rest < n) × (many reading.begins_stmt (reading.next_stmt (reading.stmt l.room) top) n (stmts_of l.found) l.rest ≡ rounds reading.begins_stmt (reading.next_stmt (reading.stmt l.room) top) ([], 0) l.tokens)

abbrev pub decreases-stmts : goal.decreases-stmts
decreases-stmts l = length l.rest
