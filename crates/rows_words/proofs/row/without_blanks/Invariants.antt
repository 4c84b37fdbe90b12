use Rattle.std.proofs.Common.{◌≡◌, length}
use Rattle.rows_words.specs.Rows.{without_blanks}
use Rattle.rows_words.proofs.row.without_blanks.Given as goal

abbrev pub invariant-blanks : goal.invariant-blanks
invariant-blanks l = without_blanks l.rest ≡ without_blanks l.bytes

abbrev pub decreases-blanks : goal.decreases-blanks
decreases-blanks l = length l.rest
