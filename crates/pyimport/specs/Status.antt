-- The exit status of the program.
use Rattle.std.specs.Prelude.{ℕ, Option, Some, None}
use Rattle.program_run.specs.declared.report.Report.{Report}

-- that of its report, and 6 where memory was wanted for the words
abbrev pub status_of : Option Report → ℕ
status_of (Some report) = report.status
status_of None = 6
