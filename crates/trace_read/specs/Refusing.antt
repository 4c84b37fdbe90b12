-- Where a line is refused: from the left, at the first field at which no line of the format goes on.
use Rattle.std.specs.Prelude.{◌≡◌, ℕ, ◌+◌, List, [], ◌∷◌, ◌++◌, length, codes, Bool, Option, Some, None, Ok, ◌⊎◌}
use Rattle.std.specs.List.{AllByRecursion}
use Rattle.machine_events.specs.declared.event.Entry.{Entry}
use Rattle.base_spelling.specs.Numbers.{number_in}
use Rattle.base_spelling.specs.Read.{text_in, source_in}
use Rattle.trace_fields.specs.declared.refusal.Cause.{Cause}
use Rattle.trace_fields.specs.declared.refusal.Cause.TheVariants as cause
use Rattle.trace_fields.specs.Splitting.{split}
use Rattle.trace_fields.specs.Reading.{Fields}
use Rattle.trace_fields.specs.Fields.{name_in}
use Rattle.trace_entries.specs.EventWords.{event_word_in}
use Rattle.trace_entries.specs.ReplyWords.{reply_word_in}
use Rattle.trace_entries.specs.Entries.{entry_of, entry_in}
use Rattle.trace_read.specs.declared.trace.TraceError.{TraceError}
use Rattle.trace_read.specs.declared.trace.TraceError.TheVariants as error
use Rattle.trace_read.specs.Reading.{format_in, pieces}

-- it holds something
abbrev pub Is : {X : Type 0} → Option X → Type 0
Is {X} held = (x : X) × (held ≡ Some x)

-- this field is of the kind that a cause names. `old` is format 1.
abbrev pub Stands : Bool → Cause → List ℕ → Type 0
Stands old cause.Fields field = Unit {0}
Stands old cause.Number field = Is (number_in field)
Stands old cause.Name field = Is (name_in field)
Stands old cause.Escape field = Is (text_in field) ⊎ Is (source_in field)
Stands old cause.Event field = Is (event_word_in old field)
Stands old cause.Reply field = Is (reply_word_in old field)
Stands old cause.Cut field = ⊥

-- it holds of the plainest field of that kind
abbrev pub OfPlainest : (List ℕ → Type 0) → Cause → Type 0
OfPlainest Holds cause.Number = Holds (codes "0")
OfPlainest Holds cause.Name = Holds (codes "a")
OfPlainest Holds cause.Escape = Holds (codes "\"\"")
OfPlainest Holds cause.Event = Holds (codes "wake")
OfPlainest Holds cause.Reply = Holds (codes "done")
OfPlainest Holds _ = ⊥

-- some line of the format begins with these fields
abbrev pub GoesOn : Bool → Fields → Type 0
GoesOn old front = (more : Fields) × (entry : Entry) × (entry_of old (front ++ more) ≡ Ok entry)

-- this field could stand behind those
abbrev pub CouldStand : Bool → Fields → List ℕ → Type 0
CouldStand old front field = GoesOn old (front ++ field ∷ [])

-- only fields of the kind that a cause names could stand there, and the plainest of the kind could
abbrev pub OnlyOfKind : Bool → Fields → Cause → Type 0
OnlyOfKind old front why = ((field : List ℕ) → CouldStand old front field → Stands old why field) × OfPlainest (CouldStand old front) why

-- the cause fits a field that stands behind those: `Fields` where no other does
abbrev pub Fits : Bool → Fields → Cause → Type 0
Fits old front cause.Fields = (other : Cause) → OnlyOfKind old front other → ⊥
Fits old front why = OnlyOfKind old front why

-- no line goes on: a field is missing, which is `Fields` whatever could stand there; or this one could not stand behind
-- those before, and the cause is the one that fits
abbrev pub NoneGoesOn : Bool → Fields → Fields → Cause → Type 0
NoneGoesOn old front [] why = why ≡ cause.Fields
NoneGoesOn old front (field ∷ fields) why = (CouldStand old front field → ⊥) × Fits old front why

-- the fields of a refused line: some line goes on from those before, none from the next
pub record Refused (old : Bool) (fields : Fields) (why : Cause) : Type 0 where
  pub front : Fields
  pub rest : Fields
  pub fields_are : fields ≡ front ++ rest
  pub goes_on : GoesOn old front
  pub stops : NoneGoesOn old front rest why

-- a first line without a line end, or one that names no format
abbrev pub NoFirstLine : List (List ℕ) → Cause → Type 0
NoFirstLine [] why = why ≡ cause.Cut
NoFirstLine (line ∷ []) why = why ≡ cause.Cut
NoFirstLine (line ∷ more ∷ lines) why = (format_in line ≡ None) × (why ≡ cause.Fields)

-- some bytes stand behind the last line end, or a line is refused
abbrev pub NoLine : Bool → List ℕ → List (List ℕ) → Cause → Type 0
NoLine old line [] why = (line ≡ [] → ⊥) × (why ≡ cause.Cut)
NoLine old line (next ∷ behind) why = Refused old (split 32 line) why

-- the line spells an entry; `old` is format 1
abbrev pub IsLine : Bool → List ℕ → Type 0
IsLine old line = (entry : Entry) × (entry_in old line ≡ Ok entry)

-- the lines from number `at` on, of which those before the refused one are lines of the format
pub record RefusedFrom (old : Bool) (at : ℕ) (lines : List (List ℕ)) (number : ℕ) (why : Cause) : Type 0 where
  pub before : List (List ℕ)
  pub line : List ℕ
  pub behind : List (List ℕ)
  pub lines_are : lines ≡ before ++ line ∷ behind
  pub all_before : AllByRecursion (IsLine old) before
  pub number_is : number ≡ at + length before
  pub refused : NoLine old line behind why

-- the first line is good, and a later one is refused
pub record RefusedLater (lines : List (List ℕ)) (number : ℕ) (why : Cause) : Type 0 where
  pub old : Bool
  pub first : List ℕ
  pub others : List (List ℕ)
  pub lines_are : lines ≡ first ∷ others
  pub format : format_in first ≡ Some old
  pub refused : RefusedFrom old 2 others number why

-- the first line that is no line of the format, by its number, and the cause; lines are numbered from 1
abbrev pub RefusedTrace : List ℕ → ℕ → Cause → Type 0
RefusedTrace bytes number why = ((number ≡ 1) × NoFirstLine (pieces bytes) why) ⊎ RefusedLater (pieces bytes) number why

-- what a refusal says of the bytes; want of memory says nothing
abbrev pub IsRefusal : List ℕ → TraceError → Type 0
IsRefusal bytes error.NoMemory = Unit {0}
IsRefusal bytes (error.At line why) = RefusedTrace bytes line why
