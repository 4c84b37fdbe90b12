-- The fields of an entry. The format is this project's own.
use Rattle.std.specs.Prelude.{ℕ, List, [], ◌∷◌, ◌++◌, codes, Bool, true, false}
use Rattle.std.specs.Fmt.{decimal}
use Rattle.base_types.specs.Path.{joined}
use Rattle.spec_core.specs.declared.spec.Spec.{Spec}
use Rattle.machine_events.specs.declared.event.Event.{Event}
use Rattle.machine_events.specs.declared.event.Event.TheVariants as e
use Rattle.machine_events.specs.declared.event.Reply.{Reply}
use Rattle.machine_events.specs.declared.event.Reply.TheVariants as r
use Rattle.machine_events.specs.declared.event.Outcome.{Outcome}
use Rattle.machine_events.specs.declared.event.Outcome.TheVariants as outcomes
use Rattle.machine_events.specs.declared.event.Entry.{Entry}
use Rattle.base_spelling.specs.Spelling.{quoted, source}
use Rattle.trace_text.specs.Values.{name_text, variable_text, texts_text, module_text, error_text, value_text, values_text, spec_text, slot_text, state_text, place_in_path, load_text}

-- the fields of a line or of a part of it, each as it is spelled
abbrev pub Fields : Type 0
Fields = List (List ℕ)

-- `raw`, as by the module's own code, is never answered `sleeping`; `soft`, as by an attribute, may be
abbrev pub raw_word : Bool → List ℕ
raw_word true = codes "raw"
raw_word false = codes "soft"

-- `good` where the body ended well, and else `bad`
abbrev pub good_word : Bool → List ℕ
good_word true = codes "good"
good_word false = codes "bad"

-- `init` where the module without the variable was initialising, and else `plain`
abbrev pub init_word : Bool → List ℕ
init_word true = codes "init"
init_word false = codes "plain"

-- `yes` where a name stands in the listing, and else `no`
abbrev pub yes_word : Bool → List ℕ
yes_word true = codes "yes"
yes_word false = codes "no"

-- `N SPEC TEXT`
abbrev pub spec_fields : Spec → List ℕ → Fields
spec_fields spec text = spec.name ∷ spec_text spec.kind ∷ source text ∷ []

-- `normal`, `fuel` or `read` with the number K that the event tells, or `raised K ERROR`
abbrev pub end_fields : Outcome → ℕ → Fields
end_fields outcomes.Normal spent = codes "normal" ∷ decimal spent ∷ []
end_fields outcomes.Fuel spent = codes "fuel" ∷ decimal spent ∷ []
end_fields outcomes.Read spent = codes "read" ∷ decimal spent ∷ []
end_fields (outcomes.Raised error) spent = codes "raised" ∷ decimal spent ∷ error_text error ∷ []

-- the word of the event, and behind it its parts; dotted names stand bare
abbrev pub event_fields : Event → Fields
event_fields (e.Ask name) = codes "ask" ∷ name ∷ []
event_fields (e.Take name) = codes "take" ∷ name ∷ []
event_fields e.Wake = codes "wake" ∷ []
event_fields (e.Add spec text) = codes "add" ∷ spec_fields spec text
event_fields (e.Finish load good) = codes "finish" ∷ decimal load ∷ good_word good ∷ []
event_fields (e.Release name) = codes "release" ∷ name ∷ []
event_fields (e.GetVar mid name raw) = codes "get" ∷ decimal mid ∷ variable_text name ∷ raw_word raw ∷ []
event_fields (e.SetVar raw mid name value) = codes "set" ∷ decimal mid ∷ variable_text name ∷ value_text value ∷ raw_word raw ∷ []
event_fields (e.DelVar mid name raw) = codes "del" ∷ decimal mid ∷ variable_text name ∷ raw_word raw ∷ []
event_fields (e.Names mid) = codes "names" ∷ decimal mid ∷ []
event_fields (e.Source load) = codes "source" ∷ decimal load ∷ []
event_fields (e.Print text) = codes "print" ∷ quoted text ∷ []
event_fields e.PathGet = codes "pathget" ∷ []
event_fields (e.PathAdd at value) = codes "pathadd" ∷ place_in_path at ∷ value_text value ∷ []
event_fields (e.DirGet dir part) = codes "dirget" ∷ quoted (joined dir) ∷ name_text part ∷ []
event_fields (e.DirSet dir listing) = codes "dirset" ∷ quoted (joined dir) ∷ decimal listing.time ∷ texts_text listing.names ∷ []
event_fields e.Invalidate = codes "invalidate" ∷ []
event_fields (e.NsGet mid) = codes "nsget" ∷ decimal mid ∷ []
event_fields (e.NsSet mid state) = codes "nsset" ∷ decimal mid ∷ state_text state ∷ []
event_fields (e.TabGet name) = codes "tabget" ∷ name ∷ []
event_fields (e.TabSet name slot) = codes "tabset" ∷ name ∷ slot_text slot ∷ []
event_fields (e.TabDel name) = codes "tabdel" ∷ name ∷ []
event_fields (e.ReloadBegin mid raw) = codes "reloadbegin" ∷ decimal mid ∷ raw_word raw ∷ []
event_fields (e.ReloadTake mid spec text) = codes "reloadtake" ∷ decimal mid ∷ spec_fields spec text
event_fields (e.ReloadEnd mid load) = codes "reloadend" ∷ decimal mid ∷ load_text load ∷ []
event_fields (e.AddLazy spec text) = codes "addlazy" ∷ spec_fields spec text
event_fields (e.Rouse mid) = codes "rouse" ∷ decimal mid ∷ []
event_fields (e.Main spec text) = codes "main" ∷ spec_fields spec text
event_fields (e.End outcome spent) = codes "end" ∷ end_fields outcome spent

-- the word of the reply, and behind it its parts; a dotted name stands bare
abbrev pub reply_fields : Reply → Fields
reply_fields (r.Module m) = codes "module" ∷ module_text m ∷ []
reply_fields (r.Cycle m) = codes "cycle" ∷ module_text m ∷ []
reply_fields r.Halted = codes "halted" ∷ []
reply_fields r.Missing = codes "missing" ∷ []
reply_fields r.Deadlock = codes "deadlock" ∷ []
reply_fields (r.Wait name) = codes "wait" ∷ name ∷ []
reply_fields (r.Mine epoch) = codes "mine" ∷ decimal epoch ∷ []
reply_fields r.Woken = codes "woken" ∷ []
reply_fields (r.Load load mid) = codes "load" ∷ decimal load ∷ decimal mid ∷ []
reply_fields (r.Kept slot) = codes "kept" ∷ slot_text slot ∷ []
reply_fields r.Lost = codes "lost" ∷ []
reply_fields r.LostParent = codes "lostparent" ∷ []
reply_fields (r.Value value) = codes "value" ∷ value_text value ∷ []
reply_fields (r.Unset init) = codes "unset" ∷ init_word init ∷ []
reply_fields r.Sleeping = codes "sleeping" ∷ []
reply_fields r.Fixed = codes "fixed" ∷ []
reply_fields (r.Names names) = codes "names" ∷ texts_text names ∷ []
reply_fields (r.Loaded m text) = codes "loaded" ∷ module_text m ∷ source text ∷ []
reply_fields (r.Path items) = codes "path" ∷ values_text items ∷ []
reply_fields r.Full = codes "full" ∷ []
reply_fields (r.Ns state epoch) = codes "state" ∷ state_text state ∷ decimal epoch ∷ []
reply_fields (r.Slot slot) = codes "slot" ∷ slot_text slot ∷ []
reply_fields (r.Was slot) = codes "was" ∷ slot_text slot ∷ []
reply_fields r.NotThere = codes "notthere" ∷ []
reply_fields (r.Busy m) = codes "busy" ∷ module_text m ∷ []
reply_fields (r.Begun epoch) = codes "begun" ∷ decimal epoch ∷ []
reply_fields (r.Yours load text) = codes "yours" ∷ decimal load ∷ source text ∷ []
reply_fields r.NoListing = codes "nolisting" ∷ []
reply_fields (r.Listing time part file) = codes "listing" ∷ decimal time ∷ yes_word part ∷ yes_word file ∷ []
reply_fields r.Ready = codes "ready" ∷ []
reply_fields r.Done = codes "done" ∷ []

-- thread, event, `->`, reply
abbrev pub entry_fields : Entry → Fields
entry_fields entry = decimal entry.thread ∷ (event_fields entry.event ++ codes "->" ∷ reply_fields entry.reply)
