-- Events that lower no count.
use Rattle.std.proofs.Common.{◌≡◌, ℕ, ◌≤◌, arith, Bool, ◌&&◌, List, Option, Some, None, sym, ap, subst}
use Rattle.std.specs.Prelude.{slice_get, not}
use Rattle.std.specs.FinMap.{get}
use Rattle.spec_core.specs.declared.spec.Spec.{Spec}
use Rattle.py_value.specs.declared.value.ModRef.{ModRef}
use Rattle.machine_events.specs.Modules.{module_of}
use Rattle.machine_events.specs.declared.module.Slot.{Slot}
use Rattle.machine_events.specs.declared.module.Slot.TheVariants as slots
use Rattle.machine_events.specs.declared.event.Reply.{Reply}
use Rattle.machine_events.specs.declared.event.Reply.TheVariants as replies
use Rattle.module_lock.specs.Table.{closes, is_free, owns, waiting}
use Rattle.module_table.specs.declared.module.Object.{Object}
use Rattle.module_table.specs.declared.module.Load.{Load}
use Rattle.module_table.specs.declared.module.Reload.{Reload}
use Rattle.module_table.specs.declared.module.Phase.{Phase}
use Rattle.module_table.specs.declared.module.Phase.TheVariants as phases
use Rattle.machine_spec.specs.declared.state.State.{State}
use Rattle.machine_spec.specs.Parts.{is_initialising, is_built_in}
use Rattle.machine_spec.specs.Waits.{wait_on, ask_object, ask_none, ask_slot, take_name}
use Rattle.machine_spec.specs.Variables.{sleeping}
use Rattle.machine_spec.specs.Reloads.{is_entry, enter, reload_begin_on, reload_start, reload_take}
use Rattle.machine_spec.specs.Lazies.{open_lazy, rouse_lazy, rouse_phase, rouse_on}
use Rattle.machine_laws.specs.Bones.{Bones, bones}
use Rattle.machine_laws.proofs.Same.{either}
use Rattle.machine_laws.proofs.Tables.{count, got_rises}

-- no count falls
abbrev pub Rises : State → Reply × State → Type 0
Rises s p = (m : List ℕ) → count s.locks m ≤ count p.1.locks m

pub stays : (s : State) (p : Reply × State) → p.1.locks ≡ s.locks → Rises s p
stays s p is m = subst (λ z. count s.locks m ≤ count z m) (sym is) (omega arith)

-- an event that leaves the bones leaves the locks
pub quiet : (s : State) (p : Reply × State) → bones p.1 ≡ bones s → Rises s p
quiet s p is = stays s p (ap (λ (b : Bones). b.locks) is)

module _ (s : State) (t : ℕ) where
  waits_on : (n : List ℕ) (blocked : Reply) → Rises s (wait_on s t n blocked)
  waits_on n blocked m = either (λ z. count s.locks m ≤ count z m) (closes s.locks t n) s.locks (waiting s.locks t n) (omega arith) (omega arith)

  same : (r : Reply) → Rises s (r, s)
  same r m = omega arith

  asks_object : (m : ModRef) (o : Option Object) → Rises s (ask_object s t m o)
  asks_object m None = same (replies.Module m)
  asks_object m (Some o) =
      either (Rises s) (is_initialising o.phase && not (owns s.locks t o.spec.name)) (wait_on s t o.spec.name (replies.Cycle m)) (replies.Module m, s)
      (waits_on o.spec.name (replies.Cycle m)) (same (replies.Module m))

  asks_none : (n : List ℕ) (missing : Reply × State) → Rises s missing → Rises s (ask_none s t n missing)
  asks_none n missing h = either (Rises s) (is_free s.locks t n) missing (wait_on s t n replies.Deadlock) h (waits_on n replies.Deadlock)

  pub asks_slot : (n : List ℕ) (missing : Reply × State) → Rises s missing → (slot : Option Slot) → Rises s (ask_slot s t n missing slot)
  asks_slot n missing h None = asks_none n missing h
  asks_slot n missing h (Some slots.Absent) = asks_none n missing h
  asks_slot n missing h (Some slots.Halted) = same replies.Halted
  asks_slot n missing h (Some (slots.Module m)) = asks_object m (slice_get s.table.objects m.mid)

  pub asks : (n : List ℕ) → Rises s (ask_slot s t n (replies.Missing, s) (get s.table.cache n))
  asks n = asks_slot n (replies.Missing, s) (same replies.Missing) (get s.table.cache n)

  pub takes : (n : List ℕ) → Rises s (take_name s t n)
  takes n = asks_slot n _ (got_rises s.locks t n) (get s.table.cache n)

  enters : (mid : ℕ) (n : List ℕ) (r : Option Reload) → Rises s (enter s t mid n r)
  enters mid n (Some r) m = omega arith
  enters mid n None m = omega arith

  pub begins_on : (mid : ℕ) (raw : Bool) (o : Option Object) → Rises s (reload_begin_on s t mid raw o)
  begins_on mid raw None = same replies.NotThere
  begins_on mid raw (Some o) =
      either (Rises s) (is_built_in o.spec.kind) _ _ (same replies.Fixed)
      (either (Rises s) (sleeping s t raw o) _ _ (same replies.Sleeping)
      (either (Rises s) (is_entry mid (get s.table.cache o.spec.name)) _ _ (enters mid o.spec.name (get s.table.reloading o.spec.name)) (same replies.NotThere)))

  pub takes_again : (mid : ℕ) (spec : Spec) (text : List ℕ) → Rises s (reload_take s t mid spec text)
  takes_again mid spec text =
      either (Rises s) (is_free s.locks t spec.name) _ (wait_on s t spec.name replies.Deadlock)
      (either (Rises s) (is_entry mid (get s.table.cache spec.name)) (reload_start s t mid spec text) (replies.NotThere, s)
      (got_rises s.locks t spec.name) (same replies.NotThere))
      (waits_on spec.name replies.Deadlock)

  opens_lazy : (mid : ℕ) (n : List ℕ) (load : ℕ) (l : Option Load) → Rises s (open_lazy s t mid n load l)
  opens_lazy mid n load None = same replies.Ready
  opens_lazy mid n load (Some l) = got_rises s.locks t n

  rouses_lazy : (mid : ℕ) (n : List ℕ) (load : Option ℕ) → Rises s (rouse_lazy s t mid n load)
  rouses_lazy mid n None = same replies.Ready
  rouses_lazy mid n (Some load) =
      either (Rises s) (is_free s.locks t n) (open_lazy s t mid n load (slice_get s.table.loads load)) (wait_on s t n replies.Deadlock)
      (opens_lazy mid n load (slice_get s.table.loads load)) (waits_on n replies.Deadlock)

  rouses_phase : (mid : ℕ) (o : Object) (phase : Phase) → Rises s (rouse_phase s t mid o phase)
  rouses_phase mid o phases.Ready = same replies.Ready
  rouses_phase mid o phases.Initialising =
      either (Rises s) (owns s.locks t o.spec.name) (replies.Ready, s) (wait_on s t o.spec.name (replies.Cycle (module_of o.spec mid)))
      (same replies.Ready) (waits_on o.spec.name (replies.Cycle (module_of o.spec mid)))
  rouses_phase mid o phases.Lazy = rouses_lazy mid o.spec.name o.load

  pub rouses : (mid : ℕ) (o : Option Object) → Rises s (rouse_on s t mid o)
  rouses mid None = same replies.Ready
  rouses mid (Some o) = rouses_phase mid o o.phase
