-- An event that is spelled is read back, and none of its fields is cut.
use Rattle.std.proofs.Common.{◌≡◌, refl, ◌++◌, Bool, true, false, not, ◌&&◌, Some, Ok, codes}
use Rattle.std.proofs.lemmas.Bool.{and_parts, cond-false}
use Rattle.std.specs.List.{AllByRecursion}
use Rattle.std.specs.Str.{is_utf8}
use Rattle.base_types.specs.Path.{joined}
use Rattle.trace_fields.specs.Reading.{Fields}
use Rattle.trace_fields.proofs.Closed.{Closed, ordinary_closed}
use Rattle.trace_fields.proofs.Quoting.{quoted_closed}
use Rattle.trace_read.proofs.Held.{any_name_again, any_name_closed, variable_again, variable_closed}
use Rattle.trace_read.specs.FieldsFit.{name_fits, place_at_fits, error_fits, spec_kind_fits, tree_path_fits}
use Rattle.trace_read.proofs.Signed.{place_again, place_in_path_closed, load_again, load_closed}
use Rattle.trace_read.proofs.Modules.{text_read, error_read, error_closed, slot_read, slot_closed}
use Rattle.trace_read.proofs.Nested.{value_read, value_item}
use Rattle.trace_read.proofs.Lists.{texts_read, texts_closed, spec_read, spec_closed, state_read, state_closed}
use Rattle.trace_read.proofs.FieldKinds.{small_read, small_closed, number_read, wide_closed, name_read, name_closed, source_read, source_field_closed, tree_path_read, raw_read, raw_closed, good_read, good_closed}
use Rattle.machine_events.specs.declared.event.Event.{Event}
use Rattle.machine_events.specs.declared.event.Event.TheVariants as e
use Rattle.machine_events.specs.declared.event.Outcome.TheVariants as outcomes
use Rattle.trace_text.specs.Fields.{event_fields}
use Rattle.trace_entries.specs.declared.event_words.BareEvent.TheVariants as bare
use Rattle.trace_entries.specs.declared.event_words.NamedEvent.TheVariants as named
use Rattle.trace_entries.specs.declared.event_words.NumberedEvent.TheVariants as numbered
use Rattle.trace_entries.specs.declared.event_words.MadeEvent.TheVariants as made
use Rattle.trace_entries.specs.declared.event_words.EventWord.{EventWord}
use Rattle.trace_entries.specs.declared.event_words.EventWord.TheVariants as words
use Rattle.trace_entries.specs.EventWords.{any_event_word, event_word_in, if_known}
use Rattle.trace_entries.specs.EventWords as known
use Rattle.trace_entries.specs.Events.{outcome_word_in, event_at}
use Rattle.trace_read.specs.Fitting.{small_fits, number_fits, spec_fits, event_fits, event_bytes, is_new_event}

word_known : (old : Bool) (w : EventWord) → known.is_new_event w ≡ false → if_known old w ≡ Some w
word_known false w h = refl
word_known true w h = cond-false _ _ _ h

word_new : (old : Bool) (w : EventWord) → old ≡ false → if_known old w ≡ Some w
word_new false w h = refl
word_new true w h = cc

never_new : (old new : Bool) → not (old && new) ≡ true → new ≡ true → old ≡ false
never_new false new h is = refl
never_new true true h is = cc
never_new true false h is = cc

pub event_again : (old : Bool) (event : Event) (rest : Fields) → event_fits event ≡ true → event_bytes event ≡ true → not (old && is_new_event event) ≡ true → event_at old (event_fields event ++ rest) ≡ Ok (event, rest)
unfolding event_at event_word_in any_event_word outcome_word_in
event_again old e.Wake rest h s k = rw (word_known old (words.Bare bare.Wake) refl) refl
event_again old e.PathGet rest h s k = rw (word_known old (words.Bare bare.PathGet) refl) refl
event_again old e.Invalidate rest h s k = rw (word_known old (words.Bare bare.Invalidate) refl) refl
event_again old (e.Ask name) rest h s k = rw (word_known old (words.Named named.Ask) refl, name_read name h) refl
event_again old (e.Take name) rest h s k = rw (word_known old (words.Named named.Take) refl, name_read name h) refl
event_again old (e.Release name) rest h s k = rw (word_known old (words.Named named.Release) refl, name_read name h) refl
event_again old (e.TabGet name) rest h s k = rw (word_known old (words.Named named.TabGet) refl, name_read name h) refl
event_again old (e.TabDel name) rest h s k = rw (word_known old (words.Named named.TabDel) refl, name_read name h) refl
event_again old (e.Names n) rest h s k = rw (word_known old (words.Numbered numbered.Names) refl, small_read n h) refl
event_again old (e.Source n) rest h s k = rw (word_known old (words.Numbered numbered.Source) refl, small_read n h) refl
event_again old (e.NsGet n) rest h s k = rw (word_known old (words.Numbered numbered.NsGet) refl, small_read n h) refl
event_again old (e.Rouse n) rest h s k = rw (word_known old (words.Numbered numbered.Rouse) refl, small_read n h) refl
event_again old (e.Finish load good) rest h s k = rw (word_known old (words.Finish) refl, small_read load h, good_read good) refl
event_again old (e.GetVar mid name raw) rest h s k =
    let b0 = and_parts (small_fits mid) _ h in
    rw (word_known old (words.Get) refl, small_read mid b0.0, variable_again name b0.1, raw_read raw) refl
event_again old (e.SetVar raw mid name value) rest h s k =
    let b0 = and_parts (small_fits mid) _ h in
    let b1 = and_parts (is_utf8 name) _ b0.1 in
    rw (word_known old (words.Set) refl, small_read mid b0.0, variable_again name b1.0, value_read value b1.1, raw_read raw) refl
event_again old (e.DelVar mid name raw) rest h s k =
    let b0 = and_parts (small_fits mid) _ h in
    rw (word_known old (words.Del) refl, small_read mid b0.0, variable_again name b0.1, raw_read raw) refl
event_again old (e.Print text) rest h s k = rw (word_known old (words.Print) refl, text_read text h) refl
event_again old (e.PathAdd at value) rest h s k =
    let b0 = and_parts (place_at_fits at) _ h in
    rw (word_known old (words.PathAdd) refl, place_again at b0.0, value_read value b0.1) refl
event_again old (e.DirGet dir part) rest h s k =
    let b0 = and_parts (tree_path_fits dir) _ h in
    rw (word_new old (words.DirGet) (never_new old true k refl), tree_path_read dir b0.0, any_name_again part b0.1) refl
event_again old (e.DirSet dir listing) rest h s k =
    let b0 = and_parts (tree_path_fits dir) _ h in
    let b1 = and_parts (number_fits listing.time) _ b0.1 in
    rw (word_new old (words.DirSet) (never_new old true k refl), tree_path_read dir b0.0, number_read listing.time b1.0, texts_read listing.names b1.1) refl
event_again old (e.NsSet mid state) rest h s k =
    let b0 = and_parts (small_fits mid) _ h in
    rw (word_known old (words.NsSet) refl, small_read mid b0.0, state_read state b0.1) refl
event_again old (e.TabSet name slot) rest h s k =
    let b0 = and_parts (name_fits name) _ h in
    rw (word_known old (words.TabSet) refl, name_read name b0.0, slot_read slot b0.1) refl
event_again old (e.ReloadBegin mid raw) rest h s k = rw (word_known old (words.ReloadBegin) refl, small_read mid h, raw_read raw) refl
event_again old (e.ReloadEnd mid load) rest h s k =
    let b0 = and_parts (small_fits mid) _ h in
    rw (word_known old (words.ReloadEnd) refl, small_read mid b0.0, load_again load b0.1) refl
event_again old (e.Add spec text) rest h s k =
    let b1 = and_parts (name_fits spec.name) (spec_kind_fits spec.kind) h in
    rw (word_known old (words.Made made.Add) refl, name_read spec.name b1.0, spec_read spec.kind b1.1, source_read text s) refl
event_again old (e.AddLazy spec text) rest h s k =
    let b1 = and_parts (name_fits spec.name) (spec_kind_fits spec.kind) h in
    rw (word_known old (words.Made made.AddLazy) refl, name_read spec.name b1.0, spec_read spec.kind b1.1, source_read text s) refl
event_again old (e.Main spec text) rest h s k =
    let b1 = and_parts (name_fits spec.name) (spec_kind_fits spec.kind) h in
    rw (word_new old (words.Made made.Main) (never_new old true k refl), name_read spec.name b1.0, spec_read spec.kind b1.1, source_read text s) refl
event_again old (e.ReloadTake mid spec text) rest h s k =
    let b = and_parts (small_fits mid) (spec_fits spec) h in
    let b1 = and_parts (name_fits spec.name) (spec_kind_fits spec.kind) b.1 in
    rw (word_known old words.ReloadTake refl, small_read mid b.0, name_read spec.name b1.0, spec_read spec.kind b1.1, source_read text s) refl
event_again old (e.End outcomes.Normal spent) rest h s k = let b = and_parts (number_fits spent) true h in rw (word_known old words.End refl, number_read spent b.0) refl
event_again old (e.End outcomes.Fuel spent) rest h s k = let b = and_parts (number_fits spent) true h in rw (word_known old words.End refl, number_read spent b.0) refl
event_again old (e.End outcomes.Read spent) rest h s k = let b = and_parts (number_fits spent) true h in rw (word_known old words.End refl, number_read spent b.0) refl
event_again old (e.End (outcomes.Raised error) spent) rest h s k = let b = and_parts (number_fits spent) (error_fits error) h in rw (word_known old words.End refl, number_read spent b.0, error_read error b.1) refl

pub event_closed : (event : Event) → event_fits event ≡ true → event_bytes event ≡ true → AllByRecursion Closed (event_fields event)
event_closed e.Wake h s = (ordinary_closed (codes "wake") refl, tt)
event_closed e.PathGet h s = (ordinary_closed (codes "pathget") refl, tt)
event_closed e.Invalidate h s = (ordinary_closed (codes "invalidate") refl, tt)
event_closed (e.Ask name) h s = (ordinary_closed (codes "ask") refl, (name_closed name h, tt))
event_closed (e.Take name) h s = (ordinary_closed (codes "take") refl, (name_closed name h, tt))
event_closed (e.Release name) h s = (ordinary_closed (codes "release") refl, (name_closed name h, tt))
event_closed (e.TabGet name) h s = (ordinary_closed (codes "tabget") refl, (name_closed name h, tt))
event_closed (e.TabDel name) h s = (ordinary_closed (codes "tabdel") refl, (name_closed name h, tt))
event_closed (e.Names n) h s = (ordinary_closed (codes "names") refl, (small_closed n h, tt))
event_closed (e.Source n) h s = (ordinary_closed (codes "source") refl, (small_closed n h, tt))
event_closed (e.NsGet n) h s = (ordinary_closed (codes "nsget") refl, (small_closed n h, tt))
event_closed (e.Rouse n) h s = (ordinary_closed (codes "rouse") refl, (small_closed n h, tt))
event_closed (e.Finish load good) h s = (ordinary_closed (codes "finish") refl, (small_closed load h, (good_closed good, tt)))
event_closed (e.GetVar mid name raw) h s =
    let b0 = and_parts (small_fits mid) _ h in
    (ordinary_closed (codes "get") refl, (small_closed mid b0.0, (variable_closed name b0.1, (raw_closed raw, tt))))
event_closed (e.SetVar raw mid name value) h s =
    let b0 = and_parts (small_fits mid) _ h in
    let b1 = and_parts (is_utf8 name) _ b0.1 in
    (ordinary_closed (codes "set") refl, (small_closed mid b0.0, (variable_closed name b1.0, ((value_item value b1.1).0, (raw_closed raw, tt)))))
event_closed (e.DelVar mid name raw) h s =
    let b0 = and_parts (small_fits mid) _ h in
    (ordinary_closed (codes "del") refl, (small_closed mid b0.0, (variable_closed name b0.1, (raw_closed raw, tt))))
event_closed (e.Print text) h s = (ordinary_closed (codes "print") refl, (quoted_closed text, tt))
event_closed (e.PathAdd at value) h s =
    let b0 = and_parts (place_at_fits at) _ h in
    (ordinary_closed (codes "pathadd") refl, (place_in_path_closed at b0.0, ((value_item value b0.1).0, tt)))
event_closed (e.DirGet dir part) h s =
    let b0 = and_parts (tree_path_fits dir) _ h in
    (ordinary_closed (codes "dirget") refl, (quoted_closed (joined dir), (any_name_closed part b0.1, tt)))
event_closed (e.DirSet dir listing) h s =
    let b0 = and_parts (tree_path_fits dir) _ h in
    let b1 = and_parts (number_fits listing.time) _ b0.1 in
    (ordinary_closed (codes "dirset") refl, (quoted_closed (joined dir), (wide_closed listing.time b1.0, (texts_closed listing.names, tt))))
event_closed (e.NsSet mid state) h s =
    let b0 = and_parts (small_fits mid) _ h in
    (ordinary_closed (codes "nsset") refl, (small_closed mid b0.0, (state_closed state b0.1, tt)))
event_closed (e.TabSet name slot) h s =
    let b0 = and_parts (name_fits name) _ h in
    (ordinary_closed (codes "tabset") refl, (name_closed name b0.0, (slot_closed slot b0.1, tt)))
event_closed (e.ReloadBegin mid raw) h s = (ordinary_closed (codes "reloadbegin") refl, (small_closed mid h, (raw_closed raw, tt)))
event_closed (e.ReloadEnd mid load) h s =
    let b0 = and_parts (small_fits mid) _ h in
    (ordinary_closed (codes "reloadend") refl, (small_closed mid b0.0, (load_closed load b0.1, tt)))
event_closed (e.Add spec text) h s =
    let b1 = and_parts (name_fits spec.name) (spec_kind_fits spec.kind) h in
    (ordinary_closed (codes "add") refl, (name_closed spec.name b1.0, (spec_closed spec.kind, (source_field_closed text s, tt))))
event_closed (e.AddLazy spec text) h s =
    let b1 = and_parts (name_fits spec.name) (spec_kind_fits spec.kind) h in
    (ordinary_closed (codes "addlazy") refl, (name_closed spec.name b1.0, (spec_closed spec.kind, (source_field_closed text s, tt))))
event_closed (e.Main spec text) h s =
    let b1 = and_parts (name_fits spec.name) (spec_kind_fits spec.kind) h in
    (ordinary_closed (codes "main") refl, (name_closed spec.name b1.0, (spec_closed spec.kind, (source_field_closed text s, tt))))
event_closed (e.ReloadTake mid spec text) h s =
    let b = and_parts (small_fits mid) (spec_fits spec) h in
    let b1 = and_parts (name_fits spec.name) (spec_kind_fits spec.kind) b.1 in
    (ordinary_closed (codes "reloadtake") refl, (small_closed mid b.0, (name_closed spec.name b1.0, (spec_closed spec.kind, (source_field_closed text s, tt)))))
event_closed (e.End outcomes.Normal spent) h s = let b = and_parts (number_fits spent) true h in (ordinary_closed (codes "end") refl, (ordinary_closed (codes "normal") refl, (wide_closed spent b.0, tt)))
event_closed (e.End outcomes.Fuel spent) h s = let b = and_parts (number_fits spent) true h in (ordinary_closed (codes "end") refl, (ordinary_closed (codes "fuel") refl, (wide_closed spent b.0, tt)))
event_closed (e.End outcomes.Read spent) h s = let b = and_parts (number_fits spent) true h in (ordinary_closed (codes "end") refl, (ordinary_closed (codes "read") refl, (wide_closed spent b.0, tt)))
event_closed (e.End (outcomes.Raised error) spent) h s = let b = and_parts (number_fits spent) (error_fits error) h in (ordinary_closed (codes "end") refl, (ordinary_closed (codes "raised") refl, (wide_closed spent b.0, (error_closed error, tt))))
