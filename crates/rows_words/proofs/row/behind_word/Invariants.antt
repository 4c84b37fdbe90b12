use Rattle.std.proofs.Common.{◌≡◌, length, ◌≤◌}
use Rattle.rows_words.specs.Rows.{behind_word}
use Rattle.rows_words.proofs.row.behind_word.Given as goal

abbrev pub invariant-word : goal.invariant-word
invariant-word l = record {
  reads : behind_word l.rest ≡ behind_word l.bytes;
  shorter : length l.rest ≤ length l.bytes;
}

abbrev pub decreases-word : goal.decreases-word
decreases-word l = length l.rest
