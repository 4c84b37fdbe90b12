-- The cache as scripts see it is safe.
use Rattle.std.proofs.Common.{◌≡◌, ℕ, Bool, not, List, Option, Some, None, refl}
use Rattle.py_value.specs.declared.operator.Applied.{Applied}
use Rattle.py_value.specs.declared.operator.Applied.TheVariants as applied
use Rattle.py_value.specs.declared.kind.Kind.TheVariants as kinds
use Rattle.py_value.specs.declared.value.Value.{Value, out-Value}
use Rattle.py_value.specs.declared.value.Value.TheVariants as values
use Rattle.py_value.specs.declared.value.Value.TheOpen.{Value-F}
use Rattle.value_texts.specs.Texts.{repr_of}
use Rattle.machine_events.specs.declared.event.Event.TheVariants as e
use Rattle.machine_events.specs.declared.event.Reply.{Reply}
use Rattle.machine_events.specs.declared.event.Reply.TheVariants as r
use Rattle.machine_events.specs.declared.module.Slot.{Slot}
use Rattle.machine_events.specs.declared.module.Slot.TheVariants as slots
use Rattle.machine_shown.specs.Shown.{Shown, shown_more, slot_modules}
use Rattle.machine_shown.specs.Knowing.{HasAll, KnowsSlot}
use Rattle.meaning_safety.proofs.Parts.{plain}
use Rattle.meaning_state.specs.Faults.{raised}
use Rattle.meaning_state.specs.declared.fault.Fault.TheVariants as fault
use Rattle.meaning_state.specs.declared.flow.Flow.TheVariants.{Went}
use Rattle.meaning_script.specs.Pieces.{Piece, fails}
use Rattle.meaning_script.specs.Entries.{is_unhashable, key_name, tested, with_key, entry_value, text_or_none, key_error, lacks, absent, entry_or, tells_entry, dropped, looked_up, looks_up, taken_out, takes_out, entry_set, puts_slot, puts, puts_named, reads_entry, has_entry, sets_entry, deletes_entry, pops_entry}
use Rattle.meaning_safety.specs.Known.{KnowsValue}
use Rattle.meaning_safety.proofs.Growth.{Grows, grows_refl, grows_then, grows_more, value_grows}
use Rattle.meaning_safety.proofs.Given.{all_here, module_in}
use Rattle.meaning_safety.proofs.Pieces.{SafeAt, Always, goes_safe, fails_safe, passes_safe, pick_safe, steady, listed_safe}
use Rattle.meaning_safety.proofs.Values.{nothing_known, module_known}

-- ---- keys

-- what goes on with a key and its name is safe later
abbrev SafeKey : Shown → (Value → Option (List ℕ) → Piece) → Type 0
SafeKey s go = (s' : Shown) → Grows s s' → (key : Value) → KnowsValue s' key → (n : Option (List ℕ)) → SafeAt s' (go key n)

with_key_safe : (s : Shown) (key : Value) → KnowsValue s key → (go : Value → Option (List ℕ) → Piece) → SafeKey s go → SafeAt s (with_key key go)
with_key_safe s key known go each =
    listed_safe s key known (tested go)
    (λ s' g k known'. pick_safe s' (is_unhashable k) (fails fault.Unhashable) (go k (key_name k)) (fails_safe fault.Unhashable s') (each s' g k known' (key_name k)))

-- ---- what stands there

-- a value that may be none
abbrev pub KnowsSome : Shown → Option Value → Type 0
KnowsSome s None = Unit {0}
KnowsSome s (Some v) = KnowsValue s v

some_grows : (s s' : Shown) → Grows s s' → (v : Option Value) → KnowsSome s v → KnowsSome s' v
some_grows s s' g None h = tt
some_grows s s' g (Some v) h = value_grows s s' g v h

entry_known : (s : Shown) (slot : Slot) → HasAll s.modules (slot_modules slot) → KnowsSome s (entry_value slot)
entry_known s slots.Absent h = tt
entry_known s slots.Halted h = nothing_known s
entry_known s (slots.Module m) h = module_known s m h.0

key_error_safe : (a : Applied) → Always (key_error a)
key_error_safe (applied.Value v) s = fails_safe (fault.Given (raised kinds.KeyError (text_or_none (out-Value v)))) s
key_error_safe (applied.Raised error) s = fails_safe (fault.Given error) s

lacks_safe : (key : Value) → Always (lacks key)
lacks_safe key s = key_error_safe (repr_of key) s

absent_safe : (s : Shown) (key : Value) (default : Option Value) → KnowsSome s default → SafeAt s (absent key default)
absent_safe s key (Some d) known = goes_safe s (Went d) known
absent_safe s key None known = lacks_safe key s

entry_or_safe : (s : Shown) (key : Value) (default entry : Option Value) → KnowsSome s default → KnowsSome s entry → SafeAt s (entry_or key default entry)
entry_or_safe s key default None h known = absent_safe s key default h
entry_or_safe s key default (Some v) h known = goes_safe s (Went v) known

tells_entry_safe : (is_negated : Bool) (entry : Option Value) → Always (tells_entry is_negated entry)
tells_entry_safe is_negated None s = goes_safe s (Went (values.Bool is_negated)) ((plain s).bool is_negated, refl)
tells_entry_safe is_negated (Some v) s = goes_safe s (Went (values.Bool (not is_negated))) ((plain s).bool (not is_negated), refl)

dropped_safe : (key : Value) (entry : Option Value) → Always (dropped key entry)
dropped_safe key None s = lacks_safe key s
dropped_safe key (Some v) s = passes_safe s

-- ---- events

-- what goes on with an entry is safe later
abbrev SafeEntry : Shown → (Option Value → Piece) → Type 0
SafeEntry s go = (s' : Shown) → Grows s s' → (entry : Option Value) → KnowsSome s' entry → SafeAt s' (go entry)

module _ (s : Shown) (go : Option Value → Piece) (each : SafeEntry s go) where
  looked_up_safe : (n : List ℕ) (reply : Reply) → SafeAt (shown_more s (e.TabGet n, reply)) (looked_up go reply)
  looked_up_safe n (r.Slot slot) =
      let next : Shown = shown_more s (e.TabGet n, r.Slot slot) in
      each next (grows_more s (e.TabGet n) (r.Slot slot)) (entry_value slot) (entry_known next slot (all_here (slot_modules slot) s.modules))
  looked_up_safe n reply = fails_safe fault.NotInProfile (shown_more s (e.TabGet n, reply))

  looks_up_safe : (n : Option (List ℕ)) → SafeAt s (looks_up n go)
  looks_up_safe None = each s (grows_refl s) None tt
  looks_up_safe (Some n) = λ run. steady s (e.TabGet n) (λ reply. looked_up go reply) (run, tt) (λ reply. refl) (λ reply. run) (looked_up_safe n) run

  taken_out_safe : (n : List ℕ) (reply : Reply) → SafeAt (shown_more s (e.TabDel n, reply)) (taken_out go reply)
  taken_out_safe n (r.Was slot) =
      let next : Shown = shown_more s (e.TabDel n, r.Was slot) in
      each next (grows_more s (e.TabDel n) (r.Was slot)) (entry_value slot) (entry_known next slot (all_here (slot_modules slot) s.modules))
  taken_out_safe n reply = fails_safe fault.NotInProfile (shown_more s (e.TabDel n, reply))

  takes_out_safe : (n : Option (List ℕ)) → SafeAt s (takes_out n go)
  takes_out_safe None = each s (grows_refl s) None tt
  takes_out_safe (Some n) = λ run. steady s (e.TabDel n) (λ reply. taken_out go reply) (run, tt) (λ reply. refl) (λ reply. run) (taken_out_safe n) run

entry_set_safe : (reply : Reply) → Always (entry_set reply)
entry_set_safe r.Done s = passes_safe s
entry_set_safe reply s = fails_safe fault.NotInProfile s

puts_slot_safe : (s : Shown) (n : List ℕ) (slot : Slot) → KnowsSlot s slot → SafeAt s (puts_slot n slot)
puts_slot_safe s n slot known = λ run.
    steady s (e.TabSet n slot) entry_set (run, known) (λ reply. refl) (λ reply. run) (λ reply. entry_set_safe reply (shown_more s (e.TabSet n slot, reply))) run

puts_named_safe : (s : Shown) (n : Option (List ℕ)) (v : Value) → KnowsValue s v → SafeAt s (puts_named n v)
puts_named_safe s None v known = fails_safe fault.NotInProfile s
puts_named_safe s (Some n) v known = at (out-Value v) refl
  where
    at : (layer : Value-F Value) → out-Value v ≡ layer → SafeAt s (puts n layer)
    at (Value-F.Module m) is = puts_slot_safe s n (slots.Module m) (module_in s v known.0 m is)
    at Value-F.Nothing is = puts_slot_safe s n slots.Halted tt
    at layer is = fails_safe fault.NotInProfile s

-- ---- operations

pub reads_entry_safe : (s : Shown) (key : Value) (default : Option Value) → KnowsValue s key → KnowsSome s default → SafeAt s (reads_entry key default)
reads_entry_safe s key default known h =
    with_key_safe s key known (λ k n. looks_up n (entry_or k default))
    (λ s' g k known' n. looks_up_safe s' (entry_or k default) (λ later g' entry has. entry_or_safe later k default entry (some_grows s later (grows_then s s' later g g') default h) has) n)

pub has_entry_safe : (s : Shown) (is_negated : Bool) (key : Value) → KnowsValue s key → SafeAt s (has_entry is_negated key)
has_entry_safe s is_negated key known =
    with_key_safe s key known (λ k n. looks_up n (tells_entry is_negated))
    (λ s' g k known' n. looks_up_safe s' (tells_entry is_negated) (λ later g' entry has. tells_entry_safe is_negated entry later) n)

pub sets_entry_safe : (s : Shown) (key v : Value) → KnowsValue s key → KnowsValue s v → SafeAt s (sets_entry key v)
sets_entry_safe s key v known h = with_key_safe s key known (λ k n. puts_named n v) (λ s' g k known' n. puts_named_safe s' n v (value_grows s s' g v h))

pub deletes_entry_safe : (s : Shown) (key : Value) → KnowsValue s key → SafeAt s (deletes_entry key)
deletes_entry_safe s key known =
    with_key_safe s key known (λ k n. takes_out n (dropped k)) (λ s' g k known' n. takes_out_safe s' (dropped k) (λ later g' entry has. dropped_safe k entry later) n)

pub pops_entry_safe : (s : Shown) (key : Value) (default : Option Value) → KnowsValue s key → KnowsSome s default → SafeAt s (pops_entry key default)
pops_entry_safe s key default known h =
    with_key_safe s key known (λ k n. takes_out n (entry_or k default))
    (λ s' g k known' n. takes_out_safe s' (entry_or k default) (λ later g' entry has. entry_or_safe later k default entry (some_grows s later (grows_then s s' later g g') default h) has) n)
