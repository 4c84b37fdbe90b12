-- An event that was read is spelled so.
use Rattle.std.proofs.Common.{◌≡◌, ◌∙◌, refl, sym, ap, subst, ℕ, List, [], ◌∷◌, ◌++◌, map, Bool, true, false, not, ◌&&◌, Some, Ok, codes}
use Rattle.std.proofs.lemmas.Bool.{and_from}
use Rattle.std.proofs.lemmas.Option.{option_and_then_some}
use Rattle.std.specs.Fmt.{decimal}
use Rattle.base_types.specs.Path.{joined}
use Rattle.spec_core.specs.declared.spec.Spec.{Spec}
use Rattle.base_spelling.specs.Numbers.{number_in}
use Rattle.base_spelling.specs.Spelling.{quoted}
use Rattle.base_spelling.specs.Read.{text_in, source_in}
use Rattle.trace_text.specs.Values.{variable_text, value_text, spec_text, place_in_path}
use Rattle.trace_fields.specs.declared.refusal.Cause.TheVariants as cause
use Rattle.trace_fields.specs.Reading.{Fields, ◌>>=◌}
use Rattle.trace_fields.specs.Fields.{small_number_in, name_in, any_name_in, variable_in, lookup}
use Rattle.trace_fields.specs.Values.{place_in_path_in, load_in, error_in, slot_in, value_in, texts_in, spec_kind_in, state_in, tree_path_in}
use Rattle.trace_entries.specs.Taking.{number_at, source_at, any_name_at, variable_at, load_at, slot_at, value_at, texts_at, spec_kind_at, state_at, flag_in, raw_at, good_at}
use Rattle.trace_read.proofs.Held.{some_is, other_option, any_name_takes, variable_takes, lookup_takes}
use Rattle.trace_read.proofs.Signed.{place_takes, load_takes}
use Rattle.trace_read.proofs.Modules.{text_told, error_told, slot_told}
use Rattle.trace_read.proofs.Told.{value_told}
use Rattle.trace_read.proofs.Lists.{texts_told, spec_told, state_told}
use Rattle.trace_read.proofs.Taking.{step, bind_ok, ok_is}
use Rattle.trace_read.proofs.FieldKinds.{small_told, number_told, name_told, source_told, tree_path_told, raw_told, good_told}
use Rattle.machine_events.specs.declared.event.Event.{Event}
use Rattle.machine_events.specs.declared.event.Event.TheVariants as e
use Rattle.machine_events.specs.declared.event.Outcome.{Outcome}
use Rattle.machine_events.specs.declared.event.Outcome.TheVariants as outcomes
use Rattle.trace_text.specs.Fields.{event_fields, end_fields}
use Rattle.trace_entries.specs.declared.event_words.BareEvent.TheVariants as bare
use Rattle.trace_entries.specs.declared.event_words.NamedEvent.TheVariants as named
use Rattle.trace_entries.specs.declared.event_words.NumberedEvent.TheVariants as numbered
use Rattle.trace_entries.specs.declared.event_words.MadeEvent.TheVariants as made
use Rattle.trace_entries.specs.declared.event_words.EventWord.{EventWord}
use Rattle.trace_entries.specs.declared.event_words.EventWord.TheVariants as words
use Rattle.trace_entries.specs.declared.events.OutcomeWord.{OutcomeWord}
use Rattle.trace_entries.specs.declared.events.OutcomeWord.TheVariants as ends
use Rattle.trace_entries.specs.EventWords.{event_word, all_event_words, any_event_word, event_word_in, if_known}
use Rattle.trace_entries.specs.EventWords as known
use Rattle.trace_entries.specs.Events.{spec_at, made_at, bare_at, named_at, numbered_at, finish_at, get_at, set_at, del_at, print_at, path_add_at, dir_get_at, dir_set_at, ns_set_at, tab_set_at, reload_begin_at, reload_take_at, reload_end_at, outcome_word, outcome_word_in, outcome_at, end_at, event_of, event_at}
use Rattle.trace_read.specs.Fitting.{spec_fits, outcome_fits, event_fits, is_new_event}

-- the fields behind a word, and whether format 1 lacks the event
pub record SpelledEvent (word : List ℕ) (new : Bool) (fields : Fields) (r : Event × Fields) : Type 0 where
  pub fields_are : word ∷ fields ≡ event_fields r.0 ++ r.1
  pub fits : event_fits r.0 ≡ true
  pub is_new : is_new_event r.0 ≡ new

ask_spelled : (fields : Fields) (r : Event × Fields) → named_at named.Ask fields ≡ Ok r → SpelledEvent (codes "ask") false fields r
ask_spelled fields r h =
    let s0 = step cause.Name name_in fields (λ v0. Ok (e.Ask v0.0, v0.1)) r h in
    let t0 = name_told s0.field s0.x s0.held in
    subst (SpelledEvent (codes "ask") false fields) (ok_is (e.Ask s0.x, s0.rest) r s0.more)
    (record { is_new = refl; fields_are = (λ k. (codes "ask") ∷ s0.front k) ∙ (λ k. (codes "ask") ∷ t0.0 k ∷ s0.rest); fits = t0.1 })

take_spelled : (fields : Fields) (r : Event × Fields) → named_at named.Take fields ≡ Ok r → SpelledEvent (codes "take") false fields r
take_spelled fields r h =
    let s0 = step cause.Name name_in fields (λ v0. Ok (e.Take v0.0, v0.1)) r h in
    let t0 = name_told s0.field s0.x s0.held in
    subst (SpelledEvent (codes "take") false fields) (ok_is (e.Take s0.x, s0.rest) r s0.more)
    (record { is_new = refl; fields_are = (λ k. (codes "take") ∷ s0.front k) ∙ (λ k. (codes "take") ∷ t0.0 k ∷ s0.rest); fits = t0.1 })

release_spelled : (fields : Fields) (r : Event × Fields) → named_at named.Release fields ≡ Ok r → SpelledEvent (codes "release") false fields r
release_spelled fields r h =
    let s0 = step cause.Name name_in fields (λ v0. Ok (e.Release v0.0, v0.1)) r h in
    let t0 = name_told s0.field s0.x s0.held in
    subst (SpelledEvent (codes "release") false fields) (ok_is (e.Release s0.x, s0.rest) r s0.more)
    (record { is_new = refl; fields_are = (λ k. (codes "release") ∷ s0.front k) ∙ (λ k. (codes "release") ∷ t0.0 k ∷ s0.rest); fits = t0.1 })

tabget_spelled : (fields : Fields) (r : Event × Fields) → named_at named.TabGet fields ≡ Ok r → SpelledEvent (codes "tabget") false fields r
tabget_spelled fields r h =
    let s0 = step cause.Name name_in fields (λ v0. Ok (e.TabGet v0.0, v0.1)) r h in
    let t0 = name_told s0.field s0.x s0.held in
    subst (SpelledEvent (codes "tabget") false fields) (ok_is (e.TabGet s0.x, s0.rest) r s0.more)
    (record { is_new = refl; fields_are = (λ k. (codes "tabget") ∷ s0.front k) ∙ (λ k. (codes "tabget") ∷ t0.0 k ∷ s0.rest); fits = t0.1 })

tabdel_spelled : (fields : Fields) (r : Event × Fields) → named_at named.TabDel fields ≡ Ok r → SpelledEvent (codes "tabdel") false fields r
tabdel_spelled fields r h =
    let s0 = step cause.Name name_in fields (λ v0. Ok (e.TabDel v0.0, v0.1)) r h in
    let t0 = name_told s0.field s0.x s0.held in
    subst (SpelledEvent (codes "tabdel") false fields) (ok_is (e.TabDel s0.x, s0.rest) r s0.more)
    (record { is_new = refl; fields_are = (λ k. (codes "tabdel") ∷ s0.front k) ∙ (λ k. (codes "tabdel") ∷ t0.0 k ∷ s0.rest); fits = t0.1 })

names_spelled : (fields : Fields) (r : Event × Fields) → numbered_at numbered.Names fields ≡ Ok r → SpelledEvent (codes "names") false fields r
names_spelled fields r h =
    let s0 = step cause.Number small_number_in fields (λ v0. Ok (e.Names v0.0, v0.1)) r h in
    let t0 = small_told s0.field s0.x s0.held in
    subst (SpelledEvent (codes "names") false fields) (ok_is (e.Names s0.x, s0.rest) r s0.more)
    (record { is_new = refl; fields_are = (λ k. (codes "names") ∷ s0.front k) ∙ (λ k. (codes "names") ∷ t0.0 k ∷ s0.rest); fits = t0.1 })

source_spelled : (fields : Fields) (r : Event × Fields) → numbered_at numbered.Source fields ≡ Ok r → SpelledEvent (codes "source") false fields r
source_spelled fields r h =
    let s0 = step cause.Number small_number_in fields (λ v0. Ok (e.Source v0.0, v0.1)) r h in
    let t0 = small_told s0.field s0.x s0.held in
    subst (SpelledEvent (codes "source") false fields) (ok_is (e.Source s0.x, s0.rest) r s0.more)
    (record { is_new = refl; fields_are = (λ k. (codes "source") ∷ s0.front k) ∙ (λ k. (codes "source") ∷ t0.0 k ∷ s0.rest); fits = t0.1 })

nsget_spelled : (fields : Fields) (r : Event × Fields) → numbered_at numbered.NsGet fields ≡ Ok r → SpelledEvent (codes "nsget") false fields r
nsget_spelled fields r h =
    let s0 = step cause.Number small_number_in fields (λ v0. Ok (e.NsGet v0.0, v0.1)) r h in
    let t0 = small_told s0.field s0.x s0.held in
    subst (SpelledEvent (codes "nsget") false fields) (ok_is (e.NsGet s0.x, s0.rest) r s0.more)
    (record { is_new = refl; fields_are = (λ k. (codes "nsget") ∷ s0.front k) ∙ (λ k. (codes "nsget") ∷ t0.0 k ∷ s0.rest); fits = t0.1 })

rouse_spelled : (fields : Fields) (r : Event × Fields) → numbered_at numbered.Rouse fields ≡ Ok r → SpelledEvent (codes "rouse") false fields r
rouse_spelled fields r h =
    let s0 = step cause.Number small_number_in fields (λ v0. Ok (e.Rouse v0.0, v0.1)) r h in
    let t0 = small_told s0.field s0.x s0.held in
    subst (SpelledEvent (codes "rouse") false fields) (ok_is (e.Rouse s0.x, s0.rest) r s0.more)
    (record { is_new = refl; fields_are = (λ k. (codes "rouse") ∷ s0.front k) ∙ (λ k. (codes "rouse") ∷ t0.0 k ∷ s0.rest); fits = t0.1 })

finish_spelled : (fields : Fields) (r : Event × Fields) → finish_at fields ≡ Ok r → SpelledEvent (codes "finish") false fields r
finish_spelled fields r h =
    let s0 = step cause.Number small_number_in fields (λ v0. good_at v0.1 >>= (λ v1. Ok (e.Finish v0.0 v1.0, v1.1))) r h in
    let s1 = step cause.Fields (flag_in (codes "good") (codes "bad")) s0.rest (λ v1. Ok (e.Finish s0.x v1.0, v1.1)) r s0.more in
    let t0 = small_told s0.field s0.x s0.held in
    let t1 = good_told s1.field s1.x s1.held in
    subst (SpelledEvent (codes "finish") false fields) (ok_is (e.Finish s0.x s1.x, s1.rest) r s1.more)
    (record { is_new = refl; fields_are = (λ k. (codes "finish") ∷ s0.front k) ∙ (λ k. (codes "finish") ∷ t0.0 k ∷ s1.front k) ∙ (λ k. (codes "finish") ∷ decimal s0.x ∷ t1 k ∷ s1.rest); fits = t0.1 })

getvar_spelled : (fields : Fields) (r : Event × Fields) → get_at fields ≡ Ok r → SpelledEvent (codes "get") false fields r
getvar_spelled fields r h =
    let s0 = step cause.Number small_number_in fields (λ v0. variable_at v0.1 >>= (λ v1. raw_at v1.1 >>= (λ v2. Ok (e.GetVar v0.0 v1.0 v2.0, v2.1)))) r h in
    let s1 = step cause.Fields variable_in s0.rest (λ v1. raw_at v1.1 >>= (λ v2. Ok (e.GetVar s0.x v1.0 v2.0, v2.1))) r s0.more in
    let s2 = step cause.Fields (flag_in (codes "raw") (codes "soft")) s1.rest (λ v2. Ok (e.GetVar s0.x s1.x v2.0, v2.1)) r s1.more in
    let t0 = small_told s0.field s0.x s0.held in
    let t1 = variable_takes s1.field s1.x s1.held in
    let t2 = raw_told s2.field s2.x s2.held in
    subst (SpelledEvent (codes "get") false fields) (ok_is (e.GetVar s0.x s1.x s2.x, s2.rest) r s2.more)
    (record { is_new = refl; fields_are = (λ k. (codes "get") ∷ s0.front k) ∙ (λ k. (codes "get") ∷ t0.0 k ∷ s1.front k) ∙ (λ k. (codes "get") ∷ decimal s0.x ∷ t1.0 k ∷ s2.front k) ∙ (λ k. (codes "get") ∷ decimal s0.x ∷ variable_text s1.x ∷ t2 k ∷ s2.rest); fits = and_from _ _ t0.1 (t1.1) })

setvar_spelled : (fields : Fields) (r : Event × Fields) → set_at fields ≡ Ok r → SpelledEvent (codes "set") false fields r
setvar_spelled fields r h =
    let s0 = step cause.Number small_number_in fields (λ v0. variable_at v0.1 >>= (λ v1. value_at v1.1 >>= (λ v2. raw_at v2.1 >>= (λ v3. Ok (e.SetVar v3.0 v0.0 v1.0 v2.0, v3.1))))) r h in
    let s1 = step cause.Fields variable_in s0.rest (λ v1. value_at v1.1 >>= (λ v2. raw_at v2.1 >>= (λ v3. Ok (e.SetVar v3.0 s0.x v1.0 v2.0, v3.1)))) r s0.more in
    let s2 = step cause.Fields (value_in 64) s1.rest (λ v2. raw_at v2.1 >>= (λ v3. Ok (e.SetVar v3.0 s0.x s1.x v2.0, v3.1))) r s1.more in
    let s3 = step cause.Fields (flag_in (codes "raw") (codes "soft")) s2.rest (λ v3. Ok (e.SetVar v3.0 s0.x s1.x s2.x, v3.1)) r s2.more in
    let t0 = small_told s0.field s0.x s0.held in
    let t1 = variable_takes s1.field s1.x s1.held in
    let t2 = value_told s2.field s2.x s2.held in
    let t3 = raw_told s3.field s3.x s3.held in
    subst (SpelledEvent (codes "set") false fields) (ok_is (e.SetVar s3.x s0.x s1.x s2.x, s3.rest) r s3.more)
    (record { is_new = refl; fields_are = (λ k. (codes "set") ∷ s0.front k) ∙ (λ k. (codes "set") ∷ t0.0 k ∷ s1.front k) ∙ (λ k. (codes "set") ∷ decimal s0.x ∷ t1.0 k ∷ s2.front k) ∙ (λ k. (codes "set") ∷ decimal s0.x ∷ variable_text s1.x ∷ t2.0 k ∷ s3.front k) ∙ (λ k. (codes "set") ∷ decimal s0.x ∷ variable_text s1.x ∷ value_text s2.x ∷ t3 k ∷ s3.rest); fits = and_from _ _ t0.1 (and_from _ _ t1.1 (t2.1)) })

delvar_spelled : (fields : Fields) (r : Event × Fields) → del_at fields ≡ Ok r → SpelledEvent (codes "del") false fields r
delvar_spelled fields r h =
    let s0 = step cause.Number small_number_in fields (λ v0. variable_at v0.1 >>= (λ v1. raw_at v1.1 >>= (λ v2. Ok (e.DelVar v0.0 v1.0 v2.0, v2.1)))) r h in
    let s1 = step cause.Fields variable_in s0.rest (λ v1. raw_at v1.1 >>= (λ v2. Ok (e.DelVar s0.x v1.0 v2.0, v2.1))) r s0.more in
    let s2 = step cause.Fields (flag_in (codes "raw") (codes "soft")) s1.rest (λ v2. Ok (e.DelVar s0.x s1.x v2.0, v2.1)) r s1.more in
    let t0 = small_told s0.field s0.x s0.held in
    let t1 = variable_takes s1.field s1.x s1.held in
    let t2 = raw_told s2.field s2.x s2.held in
    subst (SpelledEvent (codes "del") false fields) (ok_is (e.DelVar s0.x s1.x s2.x, s2.rest) r s2.more)
    (record { is_new = refl; fields_are = (λ k. (codes "del") ∷ s0.front k) ∙ (λ k. (codes "del") ∷ t0.0 k ∷ s1.front k) ∙ (λ k. (codes "del") ∷ decimal s0.x ∷ t1.0 k ∷ s2.front k) ∙ (λ k. (codes "del") ∷ decimal s0.x ∷ variable_text s1.x ∷ t2 k ∷ s2.rest); fits = and_from _ _ t0.1 (t1.1) })

print_spelled : (fields : Fields) (r : Event × Fields) → print_at fields ≡ Ok r → SpelledEvent (codes "print") false fields r
print_spelled fields r h =
    let s0 = step cause.Escape text_in fields (λ v0. Ok (e.Print v0.0, v0.1)) r h in
    let t0 = text_told s0.field s0.x s0.held in
    subst (SpelledEvent (codes "print") false fields) (ok_is (e.Print s0.x, s0.rest) r s0.more)
    (record { is_new = refl; fields_are = (λ k. (codes "print") ∷ s0.front k) ∙ (λ k. (codes "print") ∷ t0.0 k ∷ s0.rest); fits = t0.1 })

pathadd_spelled : (fields : Fields) (r : Event × Fields) → path_add_at fields ≡ Ok r → SpelledEvent (codes "pathadd") false fields r
pathadd_spelled fields r h =
    let s0 = step cause.Fields place_in_path_in fields (λ v0. value_at v0.1 >>= (λ v1. Ok (e.PathAdd v0.0 v1.0, v1.1))) r h in
    let s1 = step cause.Fields (value_in 64) s0.rest (λ v1. Ok (e.PathAdd s0.x v1.0, v1.1)) r s0.more in
    let t0 = place_takes s0.field s0.x s0.held in
    let t1 = value_told s1.field s1.x s1.held in
    subst (SpelledEvent (codes "pathadd") false fields) (ok_is (e.PathAdd s0.x s1.x, s1.rest) r s1.more)
    (record { is_new = refl; fields_are = (λ k. (codes "pathadd") ∷ s0.front k) ∙ (λ k. (codes "pathadd") ∷ t0.0 k ∷ s1.front k) ∙ (λ k. (codes "pathadd") ∷ place_in_path s0.x ∷ t1.0 k ∷ s1.rest); fits = and_from _ _ t0.1 (t1.1) })

dirget_spelled : (fields : Fields) (r : Event × Fields) → dir_get_at fields ≡ Ok r → SpelledEvent (codes "dirget") true fields r
dirget_spelled fields r h =
    let s0 = step cause.Escape tree_path_in fields (λ v0. any_name_at v0.1 >>= (λ v1. Ok (e.DirGet v0.0 v1.0, v1.1))) r h in
    let s1 = step cause.Fields any_name_in s0.rest (λ v1. Ok (e.DirGet s0.x v1.0, v1.1)) r s0.more in
    let t0 = tree_path_told s0.field s0.x s0.held in
    let t1 = any_name_takes s1.field s1.x s1.held in
    subst (SpelledEvent (codes "dirget") true fields) (ok_is (e.DirGet s0.x s1.x, s1.rest) r s1.more)
    (record { is_new = refl; fields_are = (λ k. (codes "dirget") ∷ s0.front k) ∙ (λ k. (codes "dirget") ∷ t0.0 k ∷ s1.front k) ∙ (λ k. (codes "dirget") ∷ quoted (joined s0.x) ∷ t1.0 k ∷ s1.rest); fits = and_from _ _ t0.1 (t1.1) })

dirset_spelled : (fields : Fields) (r : Event × Fields) → dir_set_at fields ≡ Ok r → SpelledEvent (codes "dirset") true fields r
dirset_spelled fields r h =
    let s0 = step cause.Escape tree_path_in fields (λ v0. number_at v0.1 >>= (λ v1. texts_at v1.1 >>= (λ v2. Ok (e.DirSet v0.0 (record { time = v1.0; names = v2.0 }), v2.1)))) r h in
    let s1 = step cause.Number number_in s0.rest (λ v1. texts_at v1.1 >>= (λ v2. Ok (e.DirSet s0.x (record { time = v1.0; names = v2.0 }), v2.1))) r s0.more in
    let s2 = step cause.Fields texts_in s1.rest (λ v2. Ok (e.DirSet s0.x (record { time = s1.x; names = v2.0 }), v2.1)) r s1.more in
    let t0 = tree_path_told s0.field s0.x s0.held in
    let t1 = number_told s1.field s1.x s1.held in
    let t2 = texts_told s2.field s2.x s2.held in
    subst (SpelledEvent (codes "dirset") true fields) (ok_is (e.DirSet s0.x (record { time = s1.x; names = s2.x }), s2.rest) r s2.more)
    (record { is_new = refl; fields_are = (λ k. (codes "dirset") ∷ s0.front k) ∙ (λ k. (codes "dirset") ∷ t0.0 k ∷ s1.front k) ∙ (λ k. (codes "dirset") ∷ quoted (joined s0.x) ∷ t1.0 k ∷ s2.front k) ∙ (λ k. (codes "dirset") ∷ quoted (joined s0.x) ∷ decimal s1.x ∷ t2.0 k ∷ s2.rest); fits = and_from _ _ t0.1 (and_from _ _ t1.1 (t2.1)) })

nsset_spelled : (fields : Fields) (r : Event × Fields) → ns_set_at fields ≡ Ok r → SpelledEvent (codes "nsset") false fields r
nsset_spelled fields r h =
    let s0 = step cause.Number small_number_in fields (λ v0. state_at v0.1 >>= (λ v1. Ok (e.NsSet v0.0 v1.0, v1.1))) r h in
    let s1 = step cause.Fields state_in s0.rest (λ v1. Ok (e.NsSet s0.x v1.0, v1.1)) r s0.more in
    let t0 = small_told s0.field s0.x s0.held in
    let t1 = state_told s1.field s1.x s1.held in
    subst (SpelledEvent (codes "nsset") false fields) (ok_is (e.NsSet s0.x s1.x, s1.rest) r s1.more)
    (record { is_new = refl; fields_are = (λ k. (codes "nsset") ∷ s0.front k) ∙ (λ k. (codes "nsset") ∷ t0.0 k ∷ s1.front k) ∙ (λ k. (codes "nsset") ∷ decimal s0.x ∷ t1.0 k ∷ s1.rest); fits = and_from _ _ t0.1 (t1.1) })

tabset_spelled : (fields : Fields) (r : Event × Fields) → tab_set_at fields ≡ Ok r → SpelledEvent (codes "tabset") false fields r
tabset_spelled fields r h =
    let s0 = step cause.Name name_in fields (λ v0. slot_at v0.1 >>= (λ v1. Ok (e.TabSet v0.0 v1.0, v1.1))) r h in
    let s1 = step cause.Fields slot_in s0.rest (λ v1. Ok (e.TabSet s0.x v1.0, v1.1)) r s0.more in
    let t0 = name_told s0.field s0.x s0.held in
    let t1 = slot_told s1.field s1.x s1.held in
    subst (SpelledEvent (codes "tabset") false fields) (ok_is (e.TabSet s0.x s1.x, s1.rest) r s1.more)
    (record { is_new = refl; fields_are = (λ k. (codes "tabset") ∷ s0.front k) ∙ (λ k. (codes "tabset") ∷ t0.0 k ∷ s1.front k) ∙ (λ k. (codes "tabset") ∷ s0.x ∷ t1.0 k ∷ s1.rest); fits = and_from _ _ t0.1 (t1.1) })

reloadbegin_spelled : (fields : Fields) (r : Event × Fields) → reload_begin_at fields ≡ Ok r → SpelledEvent (codes "reloadbegin") false fields r
reloadbegin_spelled fields r h =
    let s0 = step cause.Number small_number_in fields (λ v0. raw_at v0.1 >>= (λ v1. Ok (e.ReloadBegin v0.0 v1.0, v1.1))) r h in
    let s1 = step cause.Fields (flag_in (codes "raw") (codes "soft")) s0.rest (λ v1. Ok (e.ReloadBegin s0.x v1.0, v1.1)) r s0.more in
    let t0 = small_told s0.field s0.x s0.held in
    let t1 = raw_told s1.field s1.x s1.held in
    subst (SpelledEvent (codes "reloadbegin") false fields) (ok_is (e.ReloadBegin s0.x s1.x, s1.rest) r s1.more)
    (record { is_new = refl; fields_are = (λ k. (codes "reloadbegin") ∷ s0.front k) ∙ (λ k. (codes "reloadbegin") ∷ t0.0 k ∷ s1.front k) ∙ (λ k. (codes "reloadbegin") ∷ decimal s0.x ∷ t1 k ∷ s1.rest); fits = t0.1 })

reloadend_spelled : (fields : Fields) (r : Event × Fields) → reload_end_at fields ≡ Ok r → SpelledEvent (codes "reloadend") false fields r
reloadend_spelled fields r h =
    let s0 = step cause.Number small_number_in fields (λ v0. load_at v0.1 >>= (λ v1. Ok (e.ReloadEnd v0.0 v1.0, v1.1))) r h in
    let s1 = step cause.Fields load_in s0.rest (λ v1. Ok (e.ReloadEnd s0.x v1.0, v1.1)) r s0.more in
    let t0 = small_told s0.field s0.x s0.held in
    let t1 = load_takes s1.field s1.x s1.held in
    subst (SpelledEvent (codes "reloadend") false fields) (ok_is (e.ReloadEnd s0.x s1.x, s1.rest) r s1.more)
    (record { is_new = refl; fields_are = (λ k. (codes "reloadend") ∷ s0.front k) ∙ (λ k. (codes "reloadend") ∷ t0.0 k ∷ s1.front k) ∙ (λ k. (codes "reloadend") ∷ decimal s0.x ∷ t1.0 k ∷ s1.rest); fits = and_from _ _ t0.1 (t1.1) })

wake_spelled : (fields : Fields) (r : Event × Fields) → bare_at bare.Wake fields ≡ Ok r → SpelledEvent (codes "wake") false fields r
wake_spelled fields r h = subst (SpelledEvent (codes "wake") false fields) (ok_is (e.Wake, fields) r h) (record { fields_are = refl; fits = refl; is_new = refl })

pathget_spelled : (fields : Fields) (r : Event × Fields) → bare_at bare.PathGet fields ≡ Ok r → SpelledEvent (codes "pathget") false fields r
pathget_spelled fields r h = subst (SpelledEvent (codes "pathget") false fields) (ok_is (e.PathGet, fields) r h) (record { fields_are = refl; fits = refl; is_new = refl })

invalidate_spelled : (fields : Fields) (r : Event × Fields) → bare_at bare.Invalidate fields ≡ Ok r → SpelledEvent (codes "invalidate") false fields r
invalidate_spelled fields r h = subst (SpelledEvent (codes "invalidate") false fields) (ok_is (e.Invalidate, fields) r h) (record { fields_are = refl; fits = refl; is_new = refl })

spec_fields_told : (fields : Fields) (r : Spec × Fields) → spec_at fields ≡ Ok r → (fields ≡ r.0.name ∷ spec_text r.0.kind ∷ r.1) × (spec_fits r.0 ≡ true)
spec_fields_told fields r h =
    let s0 = step cause.Name name_in fields (λ name. spec_kind_at name.1 >>= λ kind. Ok (record { name = name.0; kind = kind.0 }, kind.1)) r h in
    let s1 = step cause.Fields spec_kind_in s0.rest (λ kind. Ok (record { name = s0.x; kind = kind.0 }, kind.1)) r s0.more in
    let t0 = name_told s0.field s0.x s0.held in
    let t1 = spec_told s1.field s1.x s1.held in
    let made : Spec × Fields = (record { name = s0.x; kind = s1.x }, s1.rest) in
    subst (λ (q : Spec × Fields). (fields ≡ q.0.name ∷ spec_text q.0.kind ∷ q.1) × (spec_fits q.0 ≡ true)) (ok_is made r s1.more)
    (s0.front ∙ (λ k. t0.0 k ∷ s1.front k) ∙ (λ k. s0.x ∷ t1.0 k ∷ s1.rest), and_from _ _ t0.1 t1.1)

add_spelled : (fields : Fields) (r : Event × Fields) → made_at made.Add fields ≡ Ok r → SpelledEvent (codes "add") false fields r
add_spelled fields r h =
    let s0 = bind_ok (spec_at fields) (λ spec. source_at spec.1 >>= λ text. Ok (e.Add spec.0 text.0, text.1)) r h in
    let s1 = step cause.Escape source_in s0.0.1 (λ text. Ok (e.Add s0.0.0 text.0, text.1)) r s0.2 in
    let t0 = spec_fields_told fields s0.0 s0.1 in
    let t1 = source_told s1.field s1.x s1.held in
    subst (SpelledEvent (codes "add") false fields) (ok_is (e.Add s0.0.0 s1.x, s1.rest) r s1.more)
    (record {
      fields_are = (λ k. codes "add" ∷ t0.0 k) ∙ (λ k. codes "add" ∷ s0.0.0.name ∷ spec_text s0.0.0.kind ∷ s1.front k) ∙ (λ k. codes "add" ∷ s0.0.0.name ∷ spec_text s0.0.0.kind ∷ t1 k ∷ s1.rest);
      fits = t0.1;
      is_new = refl;
    })

addlazy_spelled : (fields : Fields) (r : Event × Fields) → made_at made.AddLazy fields ≡ Ok r → SpelledEvent (codes "addlazy") false fields r
addlazy_spelled fields r h =
    let s0 = bind_ok (spec_at fields) (λ spec. source_at spec.1 >>= λ text. Ok (e.AddLazy spec.0 text.0, text.1)) r h in
    let s1 = step cause.Escape source_in s0.0.1 (λ text. Ok (e.AddLazy s0.0.0 text.0, text.1)) r s0.2 in
    let t0 = spec_fields_told fields s0.0 s0.1 in
    let t1 = source_told s1.field s1.x s1.held in
    subst (SpelledEvent (codes "addlazy") false fields) (ok_is (e.AddLazy s0.0.0 s1.x, s1.rest) r s1.more)
    (record {
      fields_are = (λ k. codes "addlazy" ∷ t0.0 k) ∙ (λ k. codes "addlazy" ∷ s0.0.0.name ∷ spec_text s0.0.0.kind ∷ s1.front k) ∙ (λ k. codes "addlazy" ∷ s0.0.0.name ∷ spec_text s0.0.0.kind ∷ t1 k ∷ s1.rest);
      fits = t0.1;
      is_new = refl;
    })

main_spelled : (fields : Fields) (r : Event × Fields) → made_at made.Main fields ≡ Ok r → SpelledEvent (codes "main") true fields r
main_spelled fields r h =
    let s0 = bind_ok (spec_at fields) (λ spec. source_at spec.1 >>= λ text. Ok (e.Main spec.0 text.0, text.1)) r h in
    let s1 = step cause.Escape source_in s0.0.1 (λ text. Ok (e.Main s0.0.0 text.0, text.1)) r s0.2 in
    let t0 = spec_fields_told fields s0.0 s0.1 in
    let t1 = source_told s1.field s1.x s1.held in
    subst (SpelledEvent (codes "main") true fields) (ok_is (e.Main s0.0.0 s1.x, s1.rest) r s1.more)
    (record {
      fields_are = (λ k. codes "main" ∷ t0.0 k) ∙ (λ k. codes "main" ∷ s0.0.0.name ∷ spec_text s0.0.0.kind ∷ s1.front k) ∙ (λ k. codes "main" ∷ s0.0.0.name ∷ spec_text s0.0.0.kind ∷ t1 k ∷ s1.rest);
      fits = t0.1;
      is_new = refl;
    })

reloadtake_spelled : (fields : Fields) (r : Event × Fields) → reload_take_at fields ≡ Ok r → SpelledEvent (codes "reloadtake") false fields r
reloadtake_spelled fields r h =
    let s0 = step cause.Number small_number_in fields (λ mid. spec_at mid.1 >>= λ spec. source_at spec.1 >>= λ text. Ok (e.ReloadTake mid.0 spec.0 text.0, text.1)) r h in
    let s1 = bind_ok (spec_at s0.rest) (λ spec. source_at spec.1 >>= λ text. Ok (e.ReloadTake s0.x spec.0 text.0, text.1)) r s0.more in
    let s2 = step cause.Escape source_in s1.0.1 (λ text. Ok (e.ReloadTake s0.x s1.0.0 text.0, text.1)) r s1.2 in
    let t0 = small_told s0.field s0.x s0.held in
    let t1 = spec_fields_told s0.rest s1.0 s1.1 in
    let t2 = source_told s2.field s2.x s2.held in
    let spec = s1.0.0 in
    subst (SpelledEvent (codes "reloadtake") false fields) (ok_is (e.ReloadTake s0.x spec s2.x, s2.rest) r s2.more)
    (record {
      fields_are =
          (λ k. codes "reloadtake" ∷ s0.front k) ∙ (λ k. codes "reloadtake" ∷ t0.0 k ∷ t1.0 k)
          ∙ (λ k. codes "reloadtake" ∷ decimal s0.x ∷ spec.name ∷ spec_text spec.kind ∷ s2.front k) ∙ (λ k. codes "reloadtake" ∷ decimal s0.x ∷ spec.name ∷ spec_text spec.kind ∷ t2 k ∷ s2.rest);
      fits = and_from _ _ t0.1 t1.1;
      is_new = refl;
    })

-- how an end is spelled behind its word
abbrev EndTold : OutcomeWord → ℕ → Fields → Outcome × Fields → Type 0
EndTold w spent fields o = (outcome_word w ∷ decimal spent ∷ fields ≡ end_fields o.0 spent ++ o.1) × (outcome_fits o.0 ≡ true)

outcome_told : (w : OutcomeWord) (spent : ℕ) (fields : Fields) (o : Outcome × Fields) → outcome_at w fields ≡ Ok o → EndTold w spent fields o
outcome_told ends.Normal spent fields o h = subst (EndTold ends.Normal spent fields) (ok_is (outcomes.Normal, fields) o h) (refl, refl)
outcome_told ends.Fuel spent fields o h = subst (EndTold ends.Fuel spent fields) (ok_is (outcomes.Fuel, fields) o h) (refl, refl)
outcome_told ends.Read spent fields o h = subst (EndTold ends.Read spent fields) (ok_is (outcomes.Read, fields) o h) (refl, refl)
outcome_told ends.Raised spent fields o h =
    let s = step cause.Fields error_in fields (λ error. Ok (outcomes.Raised error.0, error.1)) o h in
    let t = error_told s.field s.x s.held in
    subst (EndTold ends.Raised spent fields) (ok_is (outcomes.Raised s.x, s.rest) o s.more)
    ((λ k. codes "raised" ∷ decimal spent ∷ s.front k) ∙ (λ k. codes "raised" ∷ decimal spent ∷ t.0 k ∷ s.rest), t.1)

outcome_word_told : (field : List ℕ) (w : OutcomeWord) → outcome_word_in field ≡ Some w → field ≡ outcome_word w
unfolding outcome_word_in
outcome_word_told field w h = lookup_takes outcome_word field (ends.Normal ∷ ends.Fuel ∷ ends.Read ∷ ends.Raised ∷ []) w h

end_spelled : (fields : Fields) (r : Event × Fields) → end_at fields ≡ Ok r → SpelledEvent (codes "end") false fields r
end_spelled fields r h =
    let s0 = step cause.Fields outcome_word_in fields (λ w. number_at w.1 >>= λ spent. outcome_at w.0 spent.1 >>= λ outcome. Ok (e.End outcome.0 spent.0, outcome.1)) r h in
    let s1 = step cause.Number number_in s0.rest (λ spent. outcome_at s0.x spent.1 >>= λ outcome. Ok (e.End outcome.0 spent.0, outcome.1)) r s0.more in
    let s2 = bind_ok (outcome_at s0.x s1.rest) (λ outcome. Ok (e.End outcome.0 s1.x, outcome.1)) r s1.more in
    let t0 = outcome_word_told s0.field s0.x s0.held in
    let t1 = number_told s1.field s1.x s1.held in
    let t2 = outcome_told s0.x s1.x s1.rest s2.0 s2.1 in
    subst (SpelledEvent (codes "end") false fields) (ok_is (e.End s2.0.0 s1.x, s2.0.1) r s2.2)
    (record {
      fields_are = (λ k. codes "end" ∷ s0.front k) ∙ (λ k. codes "end" ∷ t0 k ∷ s1.front k) ∙ (λ k. codes "end" ∷ outcome_word s0.x ∷ t1.0 k ∷ s1.rest) ∙ ap (λ t. codes "end" ∷ t) t2.0;
      fits = and_from _ _ t1.1 t2.1;
      is_new = refl;
    })

event_of_told : (w : EventWord) (fields : Fields) (r : Event × Fields) → event_of w fields ≡ Ok r → SpelledEvent (event_word w) (known.is_new_event w) fields r
event_of_told (words.Bare bare.Wake) fields r h = wake_spelled fields r h
event_of_told (words.Bare bare.PathGet) fields r h = pathget_spelled fields r h
event_of_told (words.Bare bare.Invalidate) fields r h = invalidate_spelled fields r h
event_of_told (words.Named named.Ask) fields r h = ask_spelled fields r h
event_of_told (words.Named named.Take) fields r h = take_spelled fields r h
event_of_told (words.Named named.Release) fields r h = release_spelled fields r h
event_of_told (words.Named named.TabGet) fields r h = tabget_spelled fields r h
event_of_told (words.Named named.TabDel) fields r h = tabdel_spelled fields r h
event_of_told (words.Numbered numbered.Names) fields r h = names_spelled fields r h
event_of_told (words.Numbered numbered.Source) fields r h = source_spelled fields r h
event_of_told (words.Numbered numbered.NsGet) fields r h = nsget_spelled fields r h
event_of_told (words.Numbered numbered.Rouse) fields r h = rouse_spelled fields r h
event_of_told words.Finish fields r h = finish_spelled fields r h
event_of_told words.Get fields r h = getvar_spelled fields r h
event_of_told words.Set fields r h = setvar_spelled fields r h
event_of_told words.Del fields r h = delvar_spelled fields r h
event_of_told words.Print fields r h = print_spelled fields r h
event_of_told words.PathAdd fields r h = pathadd_spelled fields r h
event_of_told words.DirGet fields r h = dirget_spelled fields r h
event_of_told words.DirSet fields r h = dirset_spelled fields r h
event_of_told words.NsSet fields r h = nsset_spelled fields r h
event_of_told words.TabSet fields r h = tabset_spelled fields r h
event_of_told words.ReloadBegin fields r h = reloadbegin_spelled fields r h
event_of_told words.ReloadEnd fields r h = reloadend_spelled fields r h
event_of_told (words.Made made.Add) fields r h = add_spelled fields r h
event_of_told (words.Made made.AddLazy) fields r h = addlazy_spelled fields r h
event_of_told (words.Made made.Main) fields r h = main_spelled fields r h
event_of_told words.ReloadTake fields r h = reloadtake_spelled fields r h
event_of_told words.End fields r h = end_spelled fields r h

known_told : (old : Bool) (w x : EventWord) → if_known old w ≡ Some x → (w ≡ x) × (not (old && known.is_new_event x) ≡ true)
known_told false w x h = (some_is w x h, refl)
known_told true w x h =
    let c = other_option (known.is_new_event w) (Some w) x h in
    let is = some_is w x c.1 in
    (is, ap not (ap known.is_new_event (sym is) ∙ c.0))

event_word_told : (old : Bool) (field : List ℕ) (w : EventWord) → event_word_in old field ≡ Some w → (field ≡ event_word w) × (not (old && known.is_new_event w) ≡ true)
unfolding event_word_in any_event_word
event_word_told old field w h =
    option_and_then_some (if_known old) (lookup field (map (λ word. (event_word word, word)) all_event_words)) w h (λ found is held.
    let t = known_told old found w held in
    (lookup_takes event_word field all_event_words found is ∙ ap event_word t.0, t.1))

pub event_told : (old : Bool) (fields : Fields) (r : Event × Fields) → event_at old fields ≡ Ok r → (fields ≡ event_fields r.0 ++ r.1) × (event_fits r.0 ≡ true) × (not (old && is_new_event r.0) ≡ true)
unfolding event_at
event_told old fields r h =
    let s = step cause.Event (event_word_in old) fields (λ w. event_of w.0 w.1) r h in
    let w = event_word_told old s.field s.x s.held in
    let t = event_of_told s.x s.rest r s.more in
    (s.front ∙ ap (λ f. f ∷ s.rest) w.0 ∙ t.fields_are, t.fits, ap (λ b. not (old && b)) t.is_new ∙ w.1)
