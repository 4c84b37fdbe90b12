-- The text of a trace, in both formats: the first line names the format.
use Rattle.std.specs.Prelude.{◌≡◌, ℕ, List, [], ◌∷◌, ◌++◌, codes, Bool, true, false}
use Rattle.std.specs.List.{flat_map}
use Rattle.machine_events.specs.declared.event.Entry.{Entry}
use Rattle.trace_text.specs.Trace.{line, first_line}
use Rattle.trace_read.specs.Reading.{format_of}
use Rattle.trace_read.specs.Fitting.{entries_fit}

-- `old` is format 1
abbrev pub first_line_of : Bool → List ℕ
first_line_of true = codes "pyimport-trace 1" ++ 10 ∷ []
first_line_of false = first_line

-- the first line of the format, and one line for each entry: but for the first line both formats spell alike
abbrev pub text_of : Bool → List Entry → List ℕ
text_of old entries = first_line_of old ++ flat_map line entries

-- the format and the entries that the bytes spell
pub record Spelled (bytes : List ℕ) (t : ℕ × List Entry) : Type 0 where
  pub old : Bool
  pub format : t.0 ≡ format_of old
  pub text : bytes ≡ text_of old t.1
  pub fits : entries_fit old t.1 ≡ true
