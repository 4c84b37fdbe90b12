-- The line about a judged trace, and the status. Their form is this project's own.
use Rattle.std.specs.Prelude.{ℕ, List, ◌++◌, codes}
use Rattle.std.specs.Fmt.{decimal}
use Rattle.program_run.specs.Statuses.{normal_end, error_end}
use Rattle.trace_check.specs.declared.answers.Counts.{Counts}
use Rattle.trace_check.specs.declared.answers.Why.{Why}
use Rattle.trace_check.specs.declared.answers.Why.TheVariants as cause
use Rattle.trace_check.specs.declared.answers.Verdict.{Verdict}
use Rattle.trace_check.specs.declared.answers.Verdict.TheVariants as verdicts

-- what is wrong with a line, in lower case
abbrev pub why_name : Why → List ℕ
why_name cause.Text = codes "text"
why_name cause.Thread = codes "thread"
why_name cause.Call = codes "call"
why_name cause.Allowed = codes "allowed"
why_name cause.Reply = codes "reply"
why_name cause.End = codes "end"

-- `yes entries N loads L waits W cycles C deadlocks D`, ended by LF, each number in decimal
abbrev pub yes_line : ℕ → Counts → List ℕ
yes_line entries counts =
    codes "yes entries " ++ (decimal entries ++ (codes " loads " ++ (decimal counts.loads ++ (codes " waits "
    ++ (decimal counts.waits ++ (codes " cycles " ++ (decimal counts.cycles ++ (codes " deadlocks "
    ++ (decimal counts.deadlocks ++ codes "\n")))))))))

-- `no: line L: WHY`, ended by LF: the first line that is wrong, by its number, and why
abbrev pub no_line : ℕ → Why → List ℕ
no_line line why = codes "no: line " ++ (decimal line ++ (codes ": " ++ (why_name why ++ codes "\n")))

-- the line about a trace of so many entries
abbrev pub verdict_line : ℕ → Verdict → List ℕ
verdict_line entries (verdicts.Yes counts) = yes_line entries counts
verdict_line entries (verdicts.No line why) = no_line line why

-- the status where the line was written
abbrev pub status_of : Verdict → ℕ
status_of (verdicts.Yes counts) = normal_end
status_of (verdicts.No line why) = error_end
