-- The event that stands at the front of some fields, and the fields behind it.
use Rattle.std.specs.Prelude.{ℕ, List, [], ◌∷◌, map, codes, Bool, Option, Ok}
use Rattle.spec_core.specs.declared.spec.Spec.{Spec}
use Rattle.machine_events.specs.declared.event.Event.{Event}
use Rattle.machine_events.specs.declared.event.Event.TheVariants as e
use Rattle.machine_events.specs.declared.event.Outcome.{Outcome}
use Rattle.machine_events.specs.declared.event.Outcome.TheVariants as outcomes
use Rattle.trace_fields.specs.declared.refusal.Cause.TheVariants as cause
use Rattle.trace_fields.specs.Reading.{Fields, ◌>>=◌, taken}
use Rattle.trace_fields.specs.Fields.{lookup}
use Rattle.trace_entries.specs.declared.event_words.BareEvent.{BareEvent}
use Rattle.trace_entries.specs.declared.event_words.BareEvent.TheVariants as bare
use Rattle.trace_entries.specs.declared.event_words.NamedEvent.{NamedEvent}
use Rattle.trace_entries.specs.declared.event_words.NamedEvent.TheVariants as named
use Rattle.trace_entries.specs.declared.event_words.NumberedEvent.{NumberedEvent}
use Rattle.trace_entries.specs.declared.event_words.NumberedEvent.TheVariants as numbered
use Rattle.trace_entries.specs.declared.event_words.MadeEvent.{MadeEvent}
use Rattle.trace_entries.specs.declared.event_words.MadeEvent.TheVariants as made
use Rattle.trace_entries.specs.declared.event_words.EventWord.{EventWord}
use Rattle.trace_entries.specs.declared.event_words.EventWord.TheVariants as words
use Rattle.trace_entries.specs.declared.events.OutcomeWord.{OutcomeWord}
use Rattle.trace_entries.specs.declared.events.OutcomeWord.TheVariants as ends
use Rattle.trace_entries.specs.EventWords.{event_word_in}
use Rattle.trace_entries.specs.Taking.{Taken, small_number_at, number_at, name_at, text_at, source_at, tree_path_at, any_name_at, variable_at, place_at, load_at, error_at, slot_at, value_at, texts_at, spec_kind_at, state_at, raw_at, good_at}

-- the event of a word behind which nothing stands
abbrev pub bare_event : BareEvent → Event
bare_event bare.Wake = e.Wake
bare_event bare.PathGet = e.PathGet
bare_event bare.Invalidate = e.Invalidate

-- the event of a word behind which a dotted name stands
abbrev pub named_event : NamedEvent → List ℕ → Event
named_event named.Ask name = e.Ask name
named_event named.Take name = e.Take name
named_event named.Release name = e.Release name
named_event named.TabGet name = e.TabGet name
named_event named.TabDel name = e.TabDel name

-- the event of a word behind which a number stands: that of a load for `source`, and else that of a module
abbrev pub numbered_event : NumberedEvent → ℕ → Event
numbered_event numbered.Names n = e.Names n
numbered_event numbered.Source n = e.Source n
numbered_event numbered.NsGet n = e.NsGet n
numbered_event numbered.Rouse n = e.Rouse n

-- the event of a word behind which a spec and a source stand
abbrev pub made_event : MadeEvent → Spec → List ℕ → Event
made_event made.Add spec text = e.Add spec text
made_event made.AddLazy spec text = e.AddLazy spec text
made_event made.Main spec text = e.Main spec text

-- `N SPEC`
abbrev pub spec_at : Fields → Taken Spec
spec_at fields = do
  name ← name_at fields
  kind ← spec_kind_at name.1
  Ok (record { name = name.0; kind = kind.0 }, kind.1)

-- no field is taken behind `wake`, `pathget` or `invalidate`
abbrev pub bare_at : BareEvent → Fields → Taken Event
bare_at w fields = Ok (bare_event w, fields)

-- `N` behind `ask`, `take`, `release`, `tabget` or `tabdel`
abbrev pub named_at : NamedEvent → Fields → Taken Event
named_at w fields = do
  name ← name_at fields
  Ok (named_event w name.0, name.1)

-- `M` behind `names`, `nsget` or `rouse`, and `L` behind `source`
abbrev pub numbered_at : NumberedEvent → Fields → Taken Event
numbered_at w fields = do
  n ← small_number_at fields
  Ok (numbered_event w n.0, n.1)

-- `N SPEC S` behind `add`, `addlazy` or `main`
abbrev pub made_at : MadeEvent → Fields → Taken Event
made_at w fields = do
  spec ← spec_at fields
  text ← source_at spec.1
  Ok (made_event w spec.0 text.0, text.1)

-- `L good` or `L bad`, behind `finish`
abbrev pub finish_at : Fields → Taken Event
finish_at fields = do
  load ← small_number_at fields
  good ← good_at load.1
  Ok (e.Finish load.0 good.0, good.1)

-- `M X raw` or `M X soft`, behind `get`
abbrev pub get_at : Fields → Taken Event
get_at fields = do
  mid ← small_number_at fields
  name ← variable_at mid.1
  raw ← raw_at name.1
  Ok (e.GetVar mid.0 name.0 raw.0, raw.1)

-- `M X V raw` or `M X V soft`, behind `set`
abbrev pub set_at : Fields → Taken Event
set_at fields = do
  mid ← small_number_at fields
  name ← variable_at mid.1
  value ← value_at name.1
  raw ← raw_at value.1
  Ok (e.SetVar raw.0 mid.0 name.0 value.0, raw.1)

-- `M X raw` or `M X soft`, behind `del`
abbrev pub del_at : Fields → Taken Event
del_at fields = do
  mid ← small_number_at fields
  name ← variable_at mid.1
  raw ← raw_at name.1
  Ok (e.DelVar mid.0 name.0 raw.0, raw.1)

-- `TEXT` behind `print`
abbrev pub print_at : Fields → Taken Event
print_at fields = do
  text ← text_at fields
  Ok (e.Print text.0, text.1)

-- `AT V` behind `pathadd`; AT is a number, or `-` for the end of the search path
abbrev pub path_add_at : Fields → Taken Event
path_add_at fields = do
  at ← place_at fields
  value ← value_at at.1
  Ok (e.PathAdd at.0 value.0, value.1)

-- `TEXT PART` behind `dirget`: the folder as a tree path in a text, and the part that is looked for in it
abbrev pub dir_get_at : Fields → Taken Event
dir_get_at fields = do
  dir ← tree_path_at fields
  part ← any_name_at dir.1
  Ok (e.DirGet dir.0 part.0, part.1)

-- `TEXT TIME [TEXT,..]` behind `dirset`: the folder, and the time and the names of its listing
abbrev pub dir_set_at : Fields → Taken Event
dir_set_at fields = do
  dir ← tree_path_at fields
  time ← number_at dir.1
  names ← texts_at time.1
  Ok (e.DirSet dir.0 (record { time = time.0; names = names.0 }), names.1)

-- `M STATE` behind `nsset`
abbrev pub ns_set_at : Fields → Taken Event
ns_set_at fields = do
  mid ← small_number_at fields
  state ← state_at mid.1
  Ok (e.NsSet mid.0 state.0, state.1)

-- `N SLOT` behind `tabset`
abbrev pub tab_set_at : Fields → Taken Event
tab_set_at fields = do
  name ← name_at fields
  slot ← slot_at name.1
  Ok (e.TabSet name.0 slot.0, slot.1)

-- `M raw` or `M soft`, behind `reloadbegin`
abbrev pub reload_begin_at : Fields → Taken Event
reload_begin_at fields = do
  mid ← small_number_at fields
  raw ← raw_at mid.1
  Ok (e.ReloadBegin mid.0 raw.0, raw.1)

-- `M N SPEC S` behind `reloadtake`
abbrev pub reload_take_at : Fields → Taken Event
reload_take_at fields = do
  mid ← small_number_at fields
  spec ← spec_at mid.1
  text ← source_at spec.1
  Ok (e.ReloadTake mid.0 spec.0 text.0, text.1)

-- `M L` behind `reloadend`; L is `-` where the reload has no load
abbrev pub reload_end_at : Fields → Taken Event
reload_end_at fields = do
  mid ← small_number_at fields
  load ← load_at mid.1
  Ok (e.ReloadEnd mid.0 load.0, load.1)

-- how a script ended is told by the word behind `end`
abbrev pub outcome_word : OutcomeWord → List ℕ
outcome_word ends.Normal = codes "normal"
outcome_word ends.Fuel = codes "fuel"
outcome_word ends.Read = codes "read"
outcome_word ends.Raised = codes "raised"

-- a field is one of these four words, or none
unfoldable pub outcome_word_in : List ℕ → Option OutcomeWord
outcome_word_in field = lookup field (map (λ word. (outcome_word word, word)) (ends.Normal ∷ ends.Fuel ∷ ends.Read ∷ ends.Raised ∷ []))

-- `ERROR` behind `raised K`
abbrev pub raised_at : Fields → Taken Outcome
raised_at fields = do
  error ← error_at fields
  Ok (outcomes.Raised error.0, error.1)

-- what stands behind the number of an end: the error, where one was raised
abbrev pub outcome_at : OutcomeWord → Fields → Taken Outcome
outcome_at ends.Normal fields = Ok (outcomes.Normal, fields)
outcome_at ends.Fuel fields = Ok (outcomes.Fuel, fields)
outcome_at ends.Read fields = Ok (outcomes.Read, fields)
outcome_at ends.Raised fields = raised_at fields

-- `normal K`, `fuel K`, `read K` or `raised K ERROR`, behind `end`; the cause of any other word there is `Fields`
abbrev pub end_at : Fields → Taken Event
end_at fields = do
  word ← taken cause.Fields outcome_word_in fields
  spent ← number_at word.1
  outcome ← outcome_at word.0 spent.1
  Ok (e.End outcome.0 spent.0, outcome.1)

-- the word says which fields stand behind it
abbrev pub event_of : EventWord → Fields → Taken Event
event_of (words.Bare w) fields = bare_at w fields
event_of (words.Named w) fields = named_at w fields
event_of (words.Numbered w) fields = numbered_at w fields
event_of (words.Made w) fields = made_at w fields
event_of words.Finish fields = finish_at fields
event_of words.Get fields = get_at fields
event_of words.Set fields = set_at fields
event_of words.Del fields = del_at fields
event_of words.Print fields = print_at fields
event_of words.PathAdd fields = path_add_at fields
event_of words.DirGet fields = dir_get_at fields
event_of words.DirSet fields = dir_set_at fields
event_of words.NsSet fields = ns_set_at fields
event_of words.TabSet fields = tab_set_at fields
event_of words.ReloadBegin fields = reload_begin_at fields
event_of words.ReloadTake fields = reload_take_at fields
event_of words.ReloadEnd fields = reload_end_at fields
event_of words.End fields = end_at fields

-- the cause of a field that is no word of an event is `Event`; `old` is format 1
unfoldable pub event_at : Bool → Fields → Taken Event
event_at old fields = do
  word ← taken cause.Event (event_word_in old) fields
  event_of word.0 word.1
