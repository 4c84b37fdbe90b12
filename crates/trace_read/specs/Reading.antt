-- Line by line through a trace.
use Rattle.std.specs.Prelude.{◌≡◌, ℕ, ◌+◌, List, [], ◌∷◌, codes, Bool, true, false, ◌==◌, Option, Some, None, Result, Ok, Err, if◌then◌else◌}
use Rattle.std.specs.List.{slice_split}
use Rattle.std.specs.Str.{bytes_eq}
use Rattle.machine_events.specs.declared.event.Entry.{Entry}
use Rattle.trace_fields.specs.declared.refusal.Cause.{Cause}
use Rattle.trace_fields.specs.declared.refusal.Cause.TheVariants as cause
use Rattle.trace_fields.specs.declared.refusal.Refusal.{Refusal}
use Rattle.trace_fields.specs.declared.refusal.Refusal.TheVariants as refusal
use Rattle.trace_entries.specs.Entries.{entry_in}
use Rattle.trace_read.specs.declared.trace.Trace.{Trace}
use Rattle.trace_read.specs.declared.trace.TraceError.{TraceError}
use Rattle.trace_read.specs.declared.trace.TraceError.TheVariants as error

-- the number of a format; `old` is format 1
abbrev pub format_of : Bool → ℕ
format_of true = 1
format_of false = 2

-- the format that a first line names
abbrev pub format_in : List ℕ → Option Bool
format_in line = if bytes_eq line (codes "pyimport-trace 2") then Some false else if bytes_eq line (codes "pyimport-trace 1") then Some true else None

-- what is read: some entries, or the number of the first refused line and the cause
abbrev pub Read : Type 0 → Type 0
Read X = Result X (ℕ × Cause)

-- the entry comes before those of the lines behind it; where one of these is refused, so is the whole
abbrev pub behind : Entry → Read (List Entry) → Read (List Entry)
behind entry (Ok entries) = Ok (entry ∷ entries)
behind entry (Err why) = Err why

-- a line that is no entry is told with its own number, whatever stands behind it: the first refused line counts
abbrev pub with_entry : ℕ → Result Entry Cause → Read (List Entry) → Read (List Entry)
with_entry at (Ok entry) rest = behind entry rest
with_entry at (Err why) rest = Err (at, why)

-- what stands behind the last LF must be nothing
abbrev pub last : ℕ → List ℕ → Read (List Entry)
last at [] = Ok []
last at (b ∷ bs) = Err (at, cause.Cut)

-- through the lines from number `at` on, and to what stands behind the last LF
abbrev pub entries_in : Bool → ℕ → List (List ℕ) → Read (List Entry)
entries_in old at [] = Err (at, cause.Cut)
entries_in old at (line ∷ []) = last at line
entries_in old at (line ∷ more ∷ lines) = with_entry at (entry_in old line) (entries_in old (at + 1) (more ∷ lines))

-- the number of the format goes with the entries; a refusal stays as it is
abbrev pub with_format : Bool → Read (List Entry) → Read (ℕ × List Entry)
with_format old (Ok entries) = Ok (format_of old, entries)
with_format old (Err why) = Err why

-- a first line that names no format is refused as `Fields`; the entries begin in line 2
abbrev pub opened : Option Bool → List (List ℕ) → Read (ℕ × List Entry)
opened None lines = Err (1, cause.Fields)
opened (Some old) lines = with_format old (entries_in old 2 lines)

-- without any LF there is no first line, and the trace is cut
abbrev pub lines_in : List (List ℕ) → Read (ℕ × List Entry)
lines_in [] = Err (1, cause.Cut)
lines_in (line ∷ []) = Err (1, cause.Cut)
lines_in (line ∷ more ∷ lines) = opened (format_in line) (more ∷ lines)

-- what stands before, between and behind the LFs (10): one piece more than there are LFs
abbrev pub pieces : List ℕ → List (List ℕ)
pieces bytes = slice_split (λ b. b == 10) bytes

-- the format and the entries of a trace; else the number of
-- the first line that is no line of the format, with the cause
unfoldable pub trace_in : List ℕ → Read (ℕ × List Entry)
trace_in bytes = lines_in (pieces bytes)

-- what a function refused, unless memory is wanted
abbrev pub Fails : {Y : Type 0} → TraceError → Read Y → Type 0
Fails error.NoMemory read = Unit {0}
Fails (error.At line why) read = read ≡ Err (line, why)

-- what a function returned, seen by view, is what reading gives, unless memory ran out
abbrev pub Gives : {X Y : Type 0} → (X → Y) → Result X TraceError → Read Y → Type 0
Gives view (Ok x) read = read ≡ Ok (view x)
Gives view (Err e) read = Fails e read

-- the refusal of a line
abbrev pub Refuses : ℕ → Cause → TraceError → Type 0
Refuses line why error.NoMemory = Unit {0}
Refuses line why (error.At at told) = (at ≡ line) × (told ≡ why)

-- a cause is told with the number of its line, unless memory is wanted; want of memory stays that
abbrev pub Told : ℕ → Refusal → TraceError → Type 0
Told line refusal.NoMemory e = e ≡ error.NoMemory
Told line (refusal.Cause why) e = Refuses line why e

-- what a trace in memory says: the number of its format, and its entries
abbrev pub format_and_entries : Trace → ℕ × List Entry
format_and_entries trace = (trace.format, trace.entries)
