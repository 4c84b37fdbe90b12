-- When an answer is Deadlock, and when rousing a module is answered Cycle.
use Rattle.std.proofs.Common.{◌≡◌, ℕ, Bool, true, false, cond, ◌&&◌, List, Option, Some, None, refl, sym, ap, subst, ◌∙◌}
use Rattle.std.specs.Prelude.{slice_get, not}
use Rattle.std.specs.FinMap.{get}
use Rattle.std.proofs.lemmas.Bool.{false≢true}
use Rattle.py_value.specs.declared.value.ModRef.{ModRef}
use Rattle.spec_core.specs.declared.spec.Spec.{Spec}
use Rattle.machine_events.specs.Modules.{module_of}
use Rattle.machine_events.specs.declared.module.Slot.{Slot}
use Rattle.machine_events.specs.declared.module.Slot.TheVariants as slots
use Rattle.machine_events.specs.declared.event.Reply.{Reply}
use Rattle.machine_events.specs.declared.event.Reply.TheVariants as replies
use Rattle.module_lock.specs.Table.{Table, closes, is_free, owns, got}
use Rattle.module_lock.specs.Cycles.{Closes}
use Rattle.module_lock.proofs.Follow.{closes-yes}
use Rattle.module_table.specs.declared.module.Object.{Object}
use Rattle.module_table.specs.declared.module.Load.{Load}
use Rattle.module_table.specs.declared.module.Phase.{Phase}
use Rattle.module_table.specs.declared.module.Phase.TheVariants as phases
use Rattle.machine_spec.specs.declared.state.State.{State}
use Rattle.machine_spec.specs.Parts.{is_initialising}
use Rattle.machine_spec.specs.Waits.{wait_reply, wait_on, ask_object, ask_none, ask_slot, ask, take_name}
use Rattle.machine_spec.specs.Reloads.{is_entry, reload_start, reload_take}
use Rattle.machine_spec.specs.Lazies.{open_lazy, rouse_lazy, rouse_phase, rouse_on, rouse}

-- a reply that says that waiting would close a cycle
abbrev is_deadlock : Reply → Bool
is_deadlock replies.Deadlock = true
is_deadlock reply = false

abbrev is_cycle : Reply → Bool
is_cycle (replies.Cycle m) = true
is_cycle reply = false

module _ (is_it : Reply → Bool) (waits : (n : List ℕ) → is_it (replies.Wait n) ≡ false) (s : State) (t : ℕ) where
  -- such an answer in place of a wait comes only where the wait would close a cycle
  blocked : (n : List ℕ) (reply : Reply) → is_it (wait_reply s.locks t n reply) ≡ true → Closes s.locks t n
  blocked n reply h =
      elim (closes s.locks t n) as (λ c. closes s.locks t n ≡ c → is_it (cond c reply (replies.Wait n)) ≡ true → Closes s.locks t n) [
        | true ↦ λ p _. closes-yes s.locks t n p
        | false ↦ λ _ e. absurd (false≢true (sym (waits n) ∙ e))
      ] refl h

  -- the same where the lock may be free
  unless_free : (n : List ℕ) (b : Bool) (free : Reply × State) (reply : Reply) → is_it free.0 ≡ false → is_it (cond b free (wait_on s t n reply)).0 ≡ true → Closes s.locks t n
  unless_free n true free reply other h = absurd (false≢true (sym other ∙ h))
  unless_free n false free reply other h = blocked n reply h

module _ (s : State) (t : ℕ) where
  no_wait : (n : List ℕ) → is_deadlock (replies.Wait n) ≡ false
  no_wait n = refl

  cycle_answered : (n : List ℕ) (m : ModRef) → is_deadlock (wait_reply s.locks t n (replies.Cycle m)) ≡ false
  cycle_answered n m = elim (closes s.locks t n) as (λ c. is_deadlock (cond c (replies.Cycle m) (replies.Wait n)) ≡ false) [ true ↦ refl | false ↦ refl ]

  object_told : (m : ModRef) (o : Option Object) → is_deadlock (ask_object s t m o).0 ≡ false
  object_told m None = refl
  object_told m (Some o) =
      elim (is_initialising o.phase && not (owns s.locks t o.spec.name)) as (λ c. is_deadlock (cond c (wait_on s t o.spec.name (replies.Cycle m)) (replies.Module m, s)).0 ≡ false) [ true ↦ cycle_answered o.spec.name m | false ↦ refl ]

  slot_told : (n : List ℕ) (missing : Reply × State) → is_deadlock missing.0 ≡ false → (slot : Option Slot) → is_deadlock (ask_slot s t n missing slot).0 ≡ true → Closes s.locks t n
  slot_told n missing other None h = unless_free is_deadlock no_wait s t n (is_free s.locks t n) missing replies.Deadlock other h
  slot_told n missing other (Some slots.Absent) h = unless_free is_deadlock no_wait s t n (is_free s.locks t n) missing replies.Deadlock other h
  slot_told n missing other (Some slots.Halted) h = absurd (false≢true h)
  slot_told n missing other (Some (slots.Module m)) h = absurd (false≢true (sym (object_told m (slice_get s.table.objects m.mid)) ∙ h))

  pub asked_deadlock : (n : List ℕ) → (ask s t n).0 ≡ replies.Deadlock → Closes s.locks t n
  asked_deadlock n is = slot_told n (replies.Missing, s) refl (get s.table.cache n) (ap is_deadlock is)

  pub taken_deadlock : (n : List ℕ) → (take_name s t n).0 ≡ replies.Deadlock → Closes s.locks t n
  taken_deadlock n is = slot_told n (replies.Mine s.table.epoch, record s { locks = got s.locks t n }) refl (get s.table.cache n) (ap is_deadlock is)

  started : (mid : ℕ) (spec : Spec) (text : List ℕ) (b : Bool) → is_deadlock (cond b (reload_start s t mid spec text) (replies.NotThere, s)).0 ≡ false
  started mid spec text true = refl
  started mid spec text false = refl

  pub reloaded_deadlock : (mid : ℕ) (spec : Spec) (text : List ℕ) → (reload_take s t mid spec text).0 ≡ replies.Deadlock → Closes s.locks t spec.name
  reloaded_deadlock mid spec text is =
      unless_free is_deadlock no_wait s t spec.name (is_free s.locks t spec.name) _ replies.Deadlock (started mid spec text (is_entry mid (get s.table.cache spec.name))) (ap is_deadlock is)

  module _ (is_it : Reply → Bool) (waits : (n : List ℕ) → is_it (replies.Wait n) ≡ false) (ready : is_it replies.Ready ≡ false) (yours : (load : ℕ) (text : List ℕ) → is_it (replies.Yours load text) ≡ false) where
    opened : (mid : ℕ) (n : List ℕ) (load : ℕ) (l : Option Load) → is_it (open_lazy s t mid n load l).0 ≡ false
    opened mid n load None = ready
    opened mid n load (Some l) = yours load l.text

    lazy_told : (mid : ℕ) (n : List ℕ) (load : Option ℕ) → is_it (rouse_lazy s t mid n load).0 ≡ true → Closes s.locks t n
    lazy_told mid n None h = absurd (false≢true (sym ready ∙ h))
    lazy_told mid n (Some load) h = unless_free is_it waits s t n (is_free s.locks t n) _ replies.Deadlock (opened mid n load (slice_get s.table.loads load)) h

    phase_told : (mid : ℕ) (o : Object) (phase : Phase) → is_it (rouse_phase s t mid o phase).0 ≡ true → Closes s.locks t o.spec.name
    phase_told mid o phases.Ready h = absurd (false≢true (sym ready ∙ h))
    phase_told mid o phases.Initialising h = unless_free is_it waits s t o.spec.name (owns s.locks t o.spec.name) (replies.Ready, s) (replies.Cycle (module_of o.spec mid)) ready h
    phase_told mid o phases.Lazy h = lazy_told mid o.spec.name o.load h

    roused : (mid : ℕ) (o : Object) → is_it (rouse s t mid).0 ≡ true → slice_get s.table.objects mid ≡ Some o → Closes s.locks t o.spec.name
    roused mid o h there = phase_told mid o o.phase (sym (ap (λ (x : Option Object). is_it (rouse_on s t mid x).0) there) ∙ h)

  pub roused_deadlock : (mid : ℕ) (o : Object) → (rouse s t mid).0 ≡ replies.Deadlock → slice_get s.table.objects mid ≡ Some o → Closes s.locks t o.spec.name
  roused_deadlock mid o is there = roused is_deadlock no_wait refl (λ load text. refl) mid o (ap is_deadlock is) there

  pub roused_cycle : (mid : ℕ) (m : ModRef) (o : Object) → (rouse s t mid).0 ≡ replies.Cycle m → slice_get s.table.objects mid ≡ Some o → Closes s.locks t o.spec.name
  roused_cycle mid m o is there = roused is_cycle (λ n. refl) refl (λ load text. refl) mid o (ap is_cycle is) there
