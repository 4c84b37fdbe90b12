-- Which entries a trace can hold, in which format.
use Rattle.std.specs.Prelude.{ℕ, ◌^◌, List, Bool, true, false, not, nat_lt, ◌&&◌}
use Rattle.std.specs.List.{list_all}
use Rattle.std.specs.Str.{is_utf8}
use Rattle.spec_core.specs.declared.spec.Spec.{Spec}
use Rattle.machine_events.specs.declared.event.Event.{Event}
use Rattle.machine_events.specs.declared.event.Event.TheVariants as e
use Rattle.machine_events.specs.declared.event.Reply.{Reply}
use Rattle.machine_events.specs.declared.event.Reply.TheVariants as r
use Rattle.machine_events.specs.declared.event.Outcome.{Outcome}
use Rattle.machine_events.specs.declared.event.Outcome.TheVariants as outcomes
use Rattle.machine_events.specs.declared.event.Entry.{Entry}
use Rattle.trace_read.specs.FieldsFit.{name_fits, place_at_fits, load_fits, module_fits, error_fits, slot_fits, value_fits, values_fit, texts_fit, spec_kind_fits, state_fits, tree_path_fits}

-- threads, modules and loads have numbers below 2 ^ 32
abbrev pub small_fits : ℕ → Bool
small_fits n = nat_lt n (2 ^ 32)

-- epochs, times and units have numbers below 2 ^ 64
abbrev pub number_fits : ℕ → Bool
number_fits n = nat_lt n (2 ^ 64)

-- a dotted name, and a spec that a trace can hold, so none that is built in
abbrev pub spec_fits : Spec → Bool
spec_fits spec = name_fits spec.name && spec_kind_fits spec.kind

-- an error with texts that are UTF-8; the other ends have no parts
abbrev pub outcome_fits : Outcome → Bool
outcome_fits outcomes.Normal = true
outcome_fits outcomes.Fuel = true
outcome_fits outcomes.Read = true
outcome_fits (outcomes.Raised error) = error_fits error

-- each part of the event can stand in its field; of a source nothing is asked here
abbrev pub event_fits : Event → Bool
event_fits (e.Ask name) = name_fits name
event_fits (e.Take name) = name_fits name
event_fits e.Wake = true
event_fits (e.Add spec text) = spec_fits spec
event_fits (e.Finish load good) = small_fits load
event_fits (e.Release name) = name_fits name
event_fits (e.GetVar mid name raw) = small_fits mid && is_utf8 name
event_fits (e.SetVar raw mid name value) = small_fits mid && (is_utf8 name && value_fits value)
event_fits (e.DelVar mid name raw) = small_fits mid && is_utf8 name
event_fits (e.Names mid) = small_fits mid
event_fits (e.Source load) = small_fits load
event_fits (e.Print text) = is_utf8 text
event_fits e.PathGet = true
event_fits (e.PathAdd at value) = place_at_fits at && value_fits value
event_fits (e.DirGet dir part) = tree_path_fits dir && is_utf8 part
event_fits (e.DirSet dir listing) = tree_path_fits dir && (number_fits listing.time && texts_fit listing.names)
event_fits e.Invalidate = true
event_fits (e.NsGet mid) = small_fits mid
event_fits (e.NsSet mid state) = small_fits mid && state_fits state
event_fits (e.TabGet name) = name_fits name
event_fits (e.TabSet name slot) = name_fits name && slot_fits slot
event_fits (e.TabDel name) = name_fits name
event_fits (e.ReloadBegin mid raw) = small_fits mid
event_fits (e.ReloadTake mid spec text) = small_fits mid && spec_fits spec
event_fits (e.ReloadEnd mid load) = small_fits mid && load_fits load
event_fits (e.AddLazy spec text) = spec_fits spec
event_fits (e.Rouse mid) = small_fits mid
event_fits (e.Main spec text) = spec_fits spec
event_fits (e.End outcome spent) = number_fits spent && outcome_fits outcome

-- each part of the reply can stand in its field; of a source nothing is asked here, and replies without parts fit
abbrev pub reply_fits : Reply → Bool
reply_fits (r.Module m) = module_fits m
reply_fits (r.Cycle m) = module_fits m
reply_fits (r.Wait name) = name_fits name
reply_fits (r.Mine epoch) = number_fits epoch
reply_fits (r.Load load mid) = small_fits load && small_fits mid
reply_fits (r.Kept slot) = slot_fits slot
reply_fits (r.Value value) = value_fits value
reply_fits (r.Names names) = texts_fit names
reply_fits (r.Loaded m text) = module_fits m
reply_fits (r.Path items) = values_fit items
reply_fits (r.Ns state epoch) = state_fits state && number_fits epoch
reply_fits (r.Slot slot) = slot_fits slot
reply_fits (r.Was slot) = slot_fits slot
reply_fits (r.Busy m) = module_fits m
reply_fits (r.Begun epoch) = number_fits epoch
reply_fits (r.Yours load text) = small_fits load
reply_fits (r.Listing time part file) = number_fits time
reply_fits _ = true

-- a source is bytes
abbrev pub are_bytes : List ℕ → Bool
are_bytes bytes = list_all (λ b. nat_lt b 256) bytes

-- the source of an event that has one is bytes
abbrev pub event_bytes : Event → Bool
event_bytes (e.Add spec text) = are_bytes text
event_bytes (e.ReloadTake mid spec text) = are_bytes text
event_bytes (e.AddLazy spec text) = are_bytes text
event_bytes (e.Main spec text) = are_bytes text
event_bytes _ = true

-- the source of a reply that has one is bytes
abbrev pub reply_bytes : Reply → Bool
reply_bytes (r.Loaded m text) = are_bytes text
reply_bytes (r.Yours load text) = are_bytes text
reply_bytes _ = true

-- all sources in an entry are bytes
abbrev pub entry_bytes : Entry → Bool
entry_bytes entry = event_bytes entry.event && reply_bytes entry.reply

-- format 1 lacks these
abbrev pub is_new_event : Event → Bool
is_new_event (e.DirGet dir part) = true
is_new_event (e.DirSet dir listing) = true
is_new_event (e.Main spec text) = true
is_new_event _ = false

-- format 1 lacks these replies
abbrev pub is_new_reply : Reply → Bool
is_new_reply r.NoListing = true
is_new_reply (r.Listing time part file) = true
is_new_reply _ = false

-- `old` is format 1
abbrev pub entry_fits : Bool → Entry → Bool
entry_fits old entry =
    small_fits entry.thread && ((event_fits entry.event && not (old && is_new_event entry.event)) && (reply_fits entry.reply && not (old && is_new_reply entry.reply)))

-- a trace of the format can hold all these entries
abbrev pub entries_fit : Bool → List Entry → Bool
entries_fit old entries = list_all (entry_fits old) entries

-- all sources in these entries are bytes
abbrev pub entries_bytes : List Entry → Bool
entries_bytes entries = list_all entry_bytes entries
