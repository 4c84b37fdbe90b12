-- The entry that the fields of a line are.
use Rattle.std.specs.Prelude.{ℕ, List, [], ◌∷◌, codes, Bool, Result, Ok, Err, if◌then◌else◌}
use Rattle.std.specs.Str.{bytes_eq}
use Rattle.machine_events.specs.declared.event.Event.{Event}
use Rattle.machine_events.specs.declared.event.Reply.{Reply}
use Rattle.machine_events.specs.declared.event.Entry.{Entry}
use Rattle.trace_fields.specs.declared.refusal.Cause.{Cause}
use Rattle.trace_fields.specs.declared.refusal.Cause.TheVariants as cause
use Rattle.trace_fields.specs.Splitting.{split}
use Rattle.trace_fields.specs.Reading.{Fields, ◌>>=◌}
use Rattle.trace_entries.specs.Taking.{small_number_at}
use Rattle.trace_entries.specs.Events.{event_at}
use Rattle.trace_entries.specs.Replies.{reply_at}

-- the fields behind `->`
abbrev pub arrow : Fields → Result Fields Cause
arrow [] = Err cause.Fields
arrow (field ∷ fields) = if bytes_eq field (codes "->") then Ok fields else Err cause.Fields

-- no field stands behind the reply
abbrev pub last_reply : Reply → Fields → Result Reply Cause
last_reply reply [] = Ok reply
last_reply reply (field ∷ fields) = Err cause.Fields

-- what stands behind an event; `old` is format 1
abbrev pub reply_in : Bool → Fields → Result Reply Cause
reply_in old fields = do
  behind ← arrow fields
  reply ← reply_at old behind
  last_reply reply.0 reply.1

-- behind an event stands its reply, with which the entry is whole; where that is refused, so is the entry
abbrev pub with_reply : Bool → ℕ → Event → Fields → Result Entry Cause
with_reply old thread event fields = do
  reply ← reply_in old fields
  Ok (record { thread = thread; event = event; reply = reply })

-- thread, event, `->`, reply
abbrev pub entry_of : Bool → Fields → Result Entry Cause
entry_of old fields = do
  thread ← small_number_at fields
  event ← event_at old thread.1
  with_reply old thread.0 event.0 event.1

-- the fields of a line are split at blanks (32) outside quotes and brackets
unfoldable pub entry_in : Bool → List ℕ → Result Entry Cause
entry_in old line = entry_of old (split 32 line)
