-- What a history puts out: what it prints, or its trace. The rules are this project's own.
use Rattle.std.specs.Prelude.{ℕ, Bool, true, false, List, [], ◌++◌, flat_map}
use Rattle.machine_events.specs.declared.event.Event.{Event}
use Rattle.machine_events.specs.declared.event.Event.TheVariants as e
use Rattle.machine_events.specs.declared.event.Entry.{Entry}
use Rattle.trace_text.specs.Trace.{first_line, line}

-- the text of a Print event, and nothing of another
abbrev pub printed : Event → List ℕ
printed (e.Print text) = text
printed event = []

-- what stands before the first entry: the first line of a trace
abbrev pub opening_text : Bool → List ℕ
opening_text true = first_line
opening_text false = []

-- what an entry puts out: its line in a trace, and else the text that it prints
abbrev pub piece : Bool → Entry → List ℕ
piece true entry = line entry
piece false entry = printed entry.event

-- what a whole history puts out: its trace, or the texts of all Print events, in its order
abbrev pub out_text : Bool → List Entry → List ℕ
out_text trace history = opening_text trace ++ flat_map (piece trace) history
