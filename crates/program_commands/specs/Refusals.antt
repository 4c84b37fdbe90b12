-- The line about a text that is no trace.
use Rattle.std.specs.Prelude.{ℕ, List, ◌++◌, codes}
use Rattle.std.specs.Fmt.{decimal}
use Rattle.trace_fields.specs.declared.refusal.Cause.{Cause}
use Rattle.trace_fields.specs.declared.refusal.Cause.TheVariants as cause

-- the name of a cause
abbrev pub cause_name : Cause → List ℕ
cause_name cause.Fields = codes "Fields"
cause_name cause.Number = codes "Number"
cause_name cause.Name = codes "Name"
cause_name cause.Escape = codes "Escape"
cause_name cause.Event = codes "Event"
cause_name cause.Reply = codes "Reply"
cause_name cause.Cut = codes "Cut"

-- `pyimport: line L: CAUSE`, ended by LF: the first line that is no line of a trace, by its number
abbrev pub refusal_line : ℕ → Cause → List ℕ
refusal_line line why = codes "pyimport: line " ++ (decimal line ++ (codes ": " ++ (cause_name why ++ codes "\n")))
