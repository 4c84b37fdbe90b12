-- Why Ask changes nothing where its answer is told at once.
use Rattle.std.proofs.Common.{◌≡◌, ◌∙◌, ℕ, Bool, true, false, ◌&&◌, not, List, Option, Some, None, refl, sym, ap, subst, if◌then◌else◌, slice_get}
use Rattle.std.proofs.lemmas.Bool.{false≢true}
use Rattle.std.specs.FinMap.{get}
use Rattle.py_value.specs.declared.value.ModRef.{ModRef}
use Rattle.machine_events.specs.declared.event.Event.TheVariants as events
use Rattle.machine_events.specs.declared.event.Reply.{Reply}
use Rattle.machine_events.specs.declared.event.Reply.TheVariants as replies
use Rattle.machine_events.specs.declared.module.Slot.{Slot}
use Rattle.machine_events.specs.declared.module.Slot.TheVariants as slots
use Rattle.module_table.specs.declared.module.Object.{Object}
use Rattle.module_lock.specs.Table.{closes, is_free, owns}
use Rattle.machine_spec.specs.Parts.{is_initialising}
use Rattle.machine_spec.specs.Waits.{ask, ask_none, ask_object, ask_slot, wait_on}
use Rattle.machine_spec.specs.declared.state.State.{State}
use Rattle.machine_book.specs.Reads.{OnlyReads, is_told_at_once}

-- an answer that is told at once comes without a change
abbrev AtOnce : State → Reply × State → Type 0
AtOnce s answered = is_told_at_once answered.0 ≡ true → answered.1 ≡ s

-- who waits, or may not wait, is not told at once
waits : (s : State) (t : ℕ) (n : List ℕ) (blocked : Reply) → is_told_at_once blocked ≡ false → AtOnce s (wait_on s t n blocked)
waits s t n blocked later told =
    absurd (false≢true (sym (elim (closes s.locks t n) as (λ (c : Bool). is_told_at_once (if c then blocked else replies.Wait n) ≡ false) [
      | true ↦ later
      | false ↦ refl
    ]) ∙ told))

none_at_once : (s : State) (t : ℕ) (n : List ℕ) → AtOnce s (ask_none s t n (replies.Missing, s))
none_at_once s t n = elim (is_free s.locks t n) as (λ (c : Bool). AtOnce s (if c then (replies.Missing, s) else wait_on s t n replies.Deadlock)) [
  | true ↦ λ told. refl
  | false ↦ waits s t n replies.Deadlock refl
]

object_at_once : (s : State) (t : ℕ) (m : ModRef) (object : Option Object) → AtOnce s (ask_object s t m object)
object_at_once s t m None = λ told. refl
object_at_once s t m (Some o) = elim (is_initialising o.phase && not (owns s.locks t o.spec.name)) as (λ (c : Bool). AtOnce s (if c then wait_on s t o.spec.name (replies.Cycle m) else (replies.Module m, s))) [
  | true ↦ waits s t o.spec.name (replies.Cycle m) refl
  | false ↦ λ told. refl
]

slot_at_once : (s : State) (t : ℕ) (n : List ℕ) (slot : Option Slot) → AtOnce s (ask_slot s t n (replies.Missing, s) slot)
slot_at_once s t n None = none_at_once s t n
slot_at_once s t n (Some slots.Absent) = none_at_once s t n
slot_at_once s t n (Some slots.Halted) = λ told. refl
slot_at_once s t n (Some (slots.Module m)) = object_at_once s t m (slice_get s.table.objects m.mid)

pub ask_reads : (n : List ℕ) (answer : Reply) → is_told_at_once answer ≡ true → OnlyReads (events.Ask n) answer
ask_reads n answer told s t is = slot_at_once s t n (get s.table.cache n) (sym (ap is_told_at_once is) ∙ told)
