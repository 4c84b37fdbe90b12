-- The text of a trace, in format 2. The format is this project's own.
use Rattle.std.specs.Prelude.{ℕ, List, [], ◌∷◌, ◌++◌, codes}
use Rattle.std.specs.List.{flat_map, join_by}
use Rattle.machine_events.specs.declared.event.Entry.{Entry}
use Rattle.trace_text.specs.Fields.{Fields, entry_fields}

-- each field behind a blank
abbrev pub spaced : Fields → List ℕ
spaced fields = flat_map (λ field. 32 ∷ field) fields

-- the fields with single blanks between
abbrev pub unsplit : Fields → List ℕ
unsplit fields = join_by (λ field. field) (codes " ") fields

-- one line: the fields with single blanks between, ended by LF
abbrev pub line : Entry → List ℕ
line entry = unsplit (entry_fields entry) ++ 10 ∷ []

-- a trace says in its first line that it is of format 2
abbrev pub first_line : List ℕ
first_line = codes "pyimport-trace 2" ++ 10 ∷ []

-- the first line, and one line for each entry
abbrev pub trace : List Entry → List ℕ
trace entries = first_line ++ flat_map line entries
