use Rattle.std.proofs.Common.{◌≡◌, ◌++◌, length}
use Rattle.report_questions.specs.Lines.{lines_from, import_lines}
use Rattle.report_questions.proofs.lines.import_lines.Given as goal

abbrev pub invariant-tokens : goal.invariant-tokens
invariant-tokens l = l.lines ++ lines_from l.is_start l.rest ≡ import_lines l.tokens

abbrev pub decreases-tokens : goal.decreases-tokens
decreases-tokens l = length l.rest
