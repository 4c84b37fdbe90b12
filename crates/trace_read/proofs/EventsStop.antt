-- Events stop at the first field at which nothing goes on.
use Rattle.std.proofs.Common.{◌≡◌, refl, Bool, true, false, Some, codes}
use Rattle.machine_events.specs.declared.event.Event.TheVariants as e
use Rattle.machine_events.specs.declared.event.Outcome.TheVariants as outcomes
use Rattle.trace_fields.specs.declared.refusal.Cause.TheVariants as cause
use Rattle.trace_fields.specs.Reading.{taken}
use Rattle.trace_entries.specs.declared.event_words.NamedEvent.{NamedEvent}
use Rattle.trace_entries.specs.declared.event_words.BareEvent.TheVariants as bare
use Rattle.trace_entries.specs.declared.event_words.NumberedEvent.{NumberedEvent}
use Rattle.trace_entries.specs.declared.event_words.MadeEvent.{MadeEvent}
use Rattle.trace_entries.specs.declared.event_words.EventWord.{EventWord}
use Rattle.trace_entries.specs.declared.event_words.EventWord.TheVariants as words
use Rattle.trace_entries.specs.declared.events.OutcomeWord.{OutcomeWord}
use Rattle.trace_entries.specs.declared.events.OutcomeWord.TheVariants as ends
use Rattle.trace_entries.specs.EventWords.{any_event_word, event_word_in}
use Rattle.trace_entries.specs.Events.{bare_event, named_event, numbered_event, made_event, spec_at, named_at, numbered_at, made_at, finish_at, get_at, set_at, del_at, print_at, path_add_at, dir_get_at, dir_set_at, ns_set_at, tab_set_at, reload_begin_at, reload_take_at, reload_end_at, outcome_word_in, outcome_at, end_at, event_of, event_at}
use Rattle.trace_entries.specs.Taking.{small_number_at, number_at, name_at, text_at, source_at, tree_path_at, any_name_at, variable_at, place_at, load_at, error_at, slot_at, value_at, texts_at, spec_kind_at, state_at, raw_at, good_at}
use Rattle.trace_read.proofs.Steady.{Steady, Told, bound, done, steady_done, steady_bound, steady_field, only_kind}
use Rattle.trace_read.proofs.OneField.{small_number_steady, number_steady, name_steady, text_steady, source_steady, tree_path_steady, any_name_steady, variable_steady, place_steady, load_steady, error_steady, slot_steady, value_steady, texts_steady, spec_kind_steady, state_steady, raw_steady, good_steady, word_steady}

spec_steady : (old : Bool) → Steady old spec_at
spec_steady old =
    steady_bound old name_at (λ name. bound spec_kind_at (λ kind. done (record { name = name; kind = kind }))) (name_steady old) (λ name.
    steady_bound old spec_kind_at (λ kind. done (record { name = name; kind = kind })) (spec_kind_steady old) (λ kind. steady_done old (record { name = name; kind = kind })))

named_steady : (old : Bool) (w : NamedEvent) → Steady old (named_at w)
named_steady old w = steady_bound old name_at (λ name. done (named_event w name)) (name_steady old) (λ name. steady_done old (named_event w name))

numbered_steady : (old : Bool) (w : NumberedEvent) → Steady old (numbered_at w)
numbered_steady old w = steady_bound old small_number_at (λ n. done (numbered_event w n)) (small_number_steady old) (λ n. steady_done old (numbered_event w n))

made_steady : (old : Bool) (w : MadeEvent) → Steady old (made_at w)
made_steady old w =
    steady_bound old spec_at (λ spec. bound source_at (λ text. done (made_event w spec text))) (spec_steady old) (λ spec.
    steady_bound old source_at (λ text. done (made_event w spec text)) (source_steady old) (λ text. steady_done old (made_event w spec text)))

finish_steady : (old : Bool) → Steady old finish_at
finish_steady old =
    steady_bound old small_number_at (λ load. bound good_at (λ good. done (e.Finish load good))) (small_number_steady old) (λ load.
    steady_bound old good_at (λ good. done (e.Finish load good)) (good_steady old) (λ good. steady_done old (e.Finish load good)))

get_steady : (old : Bool) → Steady old get_at
get_steady old =
    steady_bound old small_number_at (λ mid. bound variable_at (λ name. bound raw_at (λ raw. done (e.GetVar mid name raw)))) (small_number_steady old) (λ mid.
    steady_bound old variable_at (λ name. bound raw_at (λ raw. done (e.GetVar mid name raw))) (variable_steady old) (λ name.
    steady_bound old raw_at (λ raw. done (e.GetVar mid name raw)) (raw_steady old) (λ raw. steady_done old (e.GetVar mid name raw))))

set_steady : (old : Bool) → Steady old set_at
set_steady old =
    steady_bound old small_number_at (λ mid. bound variable_at (λ name. bound value_at (λ value. bound raw_at (λ raw. done (e.SetVar raw mid name value))))) (small_number_steady old) (λ mid.
    steady_bound old variable_at (λ name. bound value_at (λ value. bound raw_at (λ raw. done (e.SetVar raw mid name value)))) (variable_steady old) (λ name.
    steady_bound old value_at (λ value. bound raw_at (λ raw. done (e.SetVar raw mid name value))) (value_steady old) (λ value.
    steady_bound old raw_at (λ raw. done (e.SetVar raw mid name value)) (raw_steady old) (λ raw. steady_done old (e.SetVar raw mid name value)))))

del_steady : (old : Bool) → Steady old del_at
del_steady old =
    steady_bound old small_number_at (λ mid. bound variable_at (λ name. bound raw_at (λ raw. done (e.DelVar mid name raw)))) (small_number_steady old) (λ mid.
    steady_bound old variable_at (λ name. bound raw_at (λ raw. done (e.DelVar mid name raw))) (variable_steady old) (λ name.
    steady_bound old raw_at (λ raw. done (e.DelVar mid name raw)) (raw_steady old) (λ raw. steady_done old (e.DelVar mid name raw))))

print_steady : (old : Bool) → Steady old print_at
print_steady old = steady_bound old text_at (λ text. done (e.Print text)) (text_steady old) (λ text. steady_done old (e.Print text))

path_add_steady : (old : Bool) → Steady old path_add_at
path_add_steady old =
    steady_bound old place_at (λ at. bound value_at (λ value. done (e.PathAdd at value))) (place_steady old) (λ at.
    steady_bound old value_at (λ value. done (e.PathAdd at value)) (value_steady old) (λ value. steady_done old (e.PathAdd at value)))

dir_get_steady : (old : Bool) → Steady old dir_get_at
dir_get_steady old =
    steady_bound old tree_path_at (λ dir. bound any_name_at (λ part. done (e.DirGet dir part))) (tree_path_steady old) (λ dir.
    steady_bound old any_name_at (λ part. done (e.DirGet dir part)) (any_name_steady old) (λ part. steady_done old (e.DirGet dir part)))

dir_set_steady : (old : Bool) → Steady old dir_set_at
dir_set_steady old =
    steady_bound old tree_path_at (λ dir. bound number_at (λ time. bound texts_at (λ names. done (e.DirSet dir (record { time = time; names = names }))))) (tree_path_steady old) (λ dir.
    steady_bound old number_at (λ time. bound texts_at (λ names. done (e.DirSet dir (record { time = time; names = names })))) (number_steady old) (λ time.
    steady_bound old texts_at (λ names. done (e.DirSet dir (record { time = time; names = names }))) (texts_steady old) (λ names. steady_done old (e.DirSet dir (record { time = time; names = names })))))

ns_set_steady : (old : Bool) → Steady old ns_set_at
ns_set_steady old =
    steady_bound old small_number_at (λ mid. bound state_at (λ state. done (e.NsSet mid state))) (small_number_steady old) (λ mid.
    steady_bound old state_at (λ state. done (e.NsSet mid state)) (state_steady old) (λ state. steady_done old (e.NsSet mid state)))

tab_set_steady : (old : Bool) → Steady old tab_set_at
tab_set_steady old =
    steady_bound old name_at (λ name. bound slot_at (λ slot. done (e.TabSet name slot))) (name_steady old) (λ name.
    steady_bound old slot_at (λ slot. done (e.TabSet name slot)) (slot_steady old) (λ slot. steady_done old (e.TabSet name slot)))

reload_begin_steady : (old : Bool) → Steady old reload_begin_at
reload_begin_steady old =
    steady_bound old small_number_at (λ mid. bound raw_at (λ raw. done (e.ReloadBegin mid raw))) (small_number_steady old) (λ mid.
    steady_bound old raw_at (λ raw. done (e.ReloadBegin mid raw)) (raw_steady old) (λ raw. steady_done old (e.ReloadBegin mid raw)))

reload_take_steady : (old : Bool) → Steady old reload_take_at
reload_take_steady old =
    steady_bound old small_number_at (λ mid. bound spec_at (λ spec. bound source_at (λ text. done (e.ReloadTake mid spec text)))) (small_number_steady old) (λ mid.
    steady_bound old spec_at (λ spec. bound source_at (λ text. done (e.ReloadTake mid spec text))) (spec_steady old) (λ spec.
    steady_bound old source_at (λ text. done (e.ReloadTake mid spec text)) (source_steady old) (λ text. steady_done old (e.ReloadTake mid spec text))))

reload_end_steady : (old : Bool) → Steady old reload_end_at
reload_end_steady old =
    steady_bound old small_number_at (λ mid. bound load_at (λ load. done (e.ReloadEnd mid load))) (small_number_steady old) (λ mid.
    steady_bound old load_at (λ load. done (e.ReloadEnd mid load)) (load_steady old) (λ load. steady_done old (e.ReloadEnd mid load)))

outcome_word_steady : (old : Bool) → Steady old (taken cause.Fields outcome_word_in)
unfolding outcome_word_in
outcome_word_steady old = word_steady old outcome_word_in (codes "normal") ends.Normal refl refl refl refl refl refl

outcome_steady : (old : Bool) (w : OutcomeWord) → Steady old (outcome_at w)
outcome_steady old ends.Normal = steady_done old outcomes.Normal
outcome_steady old ends.Fuel = steady_done old outcomes.Fuel
outcome_steady old ends.Read = steady_done old outcomes.Read
outcome_steady old ends.Raised = steady_bound old error_at (λ error. done (outcomes.Raised error)) (error_steady old) (λ error. steady_done old (outcomes.Raised error))

end_steady : (old : Bool) → Steady old end_at
end_steady old =
    steady_bound old (taken cause.Fields outcome_word_in) (λ w. bound number_at (λ spent. bound (outcome_at w) (λ outcome. done (e.End outcome spent)))) (outcome_word_steady old) (λ w.
    steady_bound old number_at (λ spent. bound (outcome_at w) (λ outcome. done (e.End outcome spent))) (number_steady old) (λ spent.
    steady_bound old (outcome_at w) (λ outcome. done (e.End outcome spent)) (outcome_steady old w) (λ outcome. steady_done old (e.End outcome spent))))

event_of_steady : (old : Bool) (w : EventWord) → Steady old (event_of w)
event_of_steady old (words.Bare w) = steady_done old (bare_event w)
event_of_steady old (words.Named w) = named_steady old w
event_of_steady old (words.Numbered w) = numbered_steady old w
event_of_steady old (words.Made w) = made_steady old w
event_of_steady old words.Finish = finish_steady old
event_of_steady old words.Get = get_steady old
event_of_steady old words.Set = set_steady old
event_of_steady old words.Del = del_steady old
event_of_steady old words.Print = print_steady old
event_of_steady old words.PathAdd = path_add_steady old
event_of_steady old words.DirGet = dir_get_steady old
event_of_steady old words.DirSet = dir_set_steady old
event_of_steady old words.NsSet = ns_set_steady old
event_of_steady old words.TabSet = tab_set_steady old
event_of_steady old words.ReloadBegin = reload_begin_steady old
event_of_steady old words.ReloadTake = reload_take_steady old
event_of_steady old words.ReloadEnd = reload_end_steady old
event_of_steady old words.End = end_steady old

wake_known : (old : Bool) → event_word_in old (codes "wake") ≡ Some (words.Bare bare.Wake)
unfolding event_word_in any_event_word
wake_known false = refl
wake_known true = refl

event_told : (old : Bool) → Told old cause.Event (event_word_in old)
event_told old field w h = (w, h)

pub event_steady : (old : Bool) → Steady old (event_at old)
unfolding event_at
event_steady old =
    steady_bound old (taken cause.Event (event_word_in old)) event_of
    (steady_field old cause.Event (event_word_in old) (codes "wake") (words.Bare bare.Wake) (wake_known old) (only_kind old cause.Event (event_word_in old) (event_told old) (words.Bare bare.Wake, wake_known old)))
    (event_of_steady old)
