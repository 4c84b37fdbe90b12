use Rattle.std.proofs.Common.{◌≡◌, length, ◌≤◌}
use Rattle.rows_words.specs.Rows.{behind_name}
use Rattle.rows_words.proofs.row.behind_name.Given as goal

abbrev pub invariant-name : goal.invariant-name
invariant-name l = record {
  reads : behind_name l.rest ≡ behind_name l.bytes;
  shorter : length l.rest ≤ length l.bytes;
}

abbrev pub decreases-name : goal.decreases-name
decreases-name l = length l.rest
