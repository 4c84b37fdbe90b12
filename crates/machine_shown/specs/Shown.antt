-- What a thread's own events with their replies show of the machine.
use Rattle.std.specs.Prelude.{ℕ, codes, nat_eq, Bool, true, false, List, [], ◌∷◌, ◌++◌, None, Some, fold, flat_map, if◌then◌else◌}
use Rattle.std.specs.Cmp.Lexicographic.{pointwise}
use Rattle.py_value.specs.declared.value.Value.{Value}
use Rattle.py_value.specs.declared.value.Value.TheVariants as values
use Rattle.py_value.specs.declared.value.Value.TheOpen.{Value-F}
use Rattle.py_value.specs.declared.value.Value.TheFolds.{fold-Value}
use Rattle.py_value.specs.declared.value.ModRef.{ModRef}
use Rattle.spec_core.specs.declared.spec.SpecKind.{SpecKind}
use Rattle.spec_core.specs.declared.spec.SpecKind.TheVariants as kinds
use Rattle.machine_events.specs.declared.module.Slot.{Slot}
use Rattle.machine_events.specs.declared.module.Slot.TheVariants as slots
use Rattle.machine_events.specs.declared.event.Event.{Event}
use Rattle.machine_events.specs.declared.event.Event.TheVariants as e
use Rattle.machine_events.specs.declared.event.Reply.{Reply}
use Rattle.machine_events.specs.declared.event.Reply.TheVariants as r
use Rattle.machine_shown.specs.Holdings.{Holding, Taken, Loading, Reloading, without, becoming}

-- what a thread does now, as far as it knows
pub data Doing : Type 0 where
  Running : Doing
  Waiting : Doing
  Over : Doing

-- what a thread knows of the machine, whatever the other threads do
pub record Shown : Type 0 where
  -- what is held, the innermost first
  pub held : List Holding
  -- modules that exist, with their names and places
  pub modules : List ModRef
  -- the numbers of modules and of loads that exist
  pub mids : List ℕ
  pub loads : List ℕ
  -- the numbers of modules that have the state of a namespace
  pub namespaces : List ℕ
  pub doing : Doing

-- at first a thread knows its own module and its own load
abbrev pub shown_first : ℕ → Shown
shown_first t = record { held = []; modules = []; mids = t ∷ []; loads = t ∷ []; namespaces = []; doing = Running }

-- the modules that a value holds, at any depth
abbrev pub modules_at : Value-F (List ModRef) → List ModRef
modules_at (Value-F.List items) = flat_map (λ ms. ms) items
modules_at (Value-F.Tuple items) = flat_map (λ ms. ms) items
modules_at (Value-F.Module m) = m ∷ []
modules_at _ = []

-- the same, of a whole value from the inside out
abbrev pub modules_in : Value → List ModRef
modules_in = fold-Value (List ModRef) modules_at

-- the loads whose functions a value holds, at any depth
abbrev pub loads_at : Value-F (List ℕ) → List ℕ
loads_at (Value-F.List items) = flat_map (λ ls. ls) items
loads_at (Value-F.Tuple items) = flat_map (λ ls. ls) items
loads_at (Value-F.Func load index name) = load ∷ []
loads_at _ = []

-- the same, of a whole value from the inside out
abbrev pub loads_in : Value → List ℕ
loads_in = fold-Value (List ℕ) loads_at

-- only an entry that is a module names one
abbrev pub slot_modules : Slot → List ModRef
slot_modules (slots.Module m) = m ∷ []
slot_modules slot = []

-- the modules that a reply names
abbrev pub named : Reply → List ModRef
named (r.Module m) = m ∷ []
named (r.Cycle m) = m ∷ []
named (r.Kept slot) = slot_modules slot
named (r.Value v) = modules_in v
named (r.Loaded m text) = m ∷ []
named (r.Path items) = flat_map modules_in items
named (r.Ns state epoch) = flat_map modules_in state.parent_path
named (r.Slot slot) = slot_modules slot
named (r.Was slot) = slot_modules slot
named (r.Busy m) = m ∷ []
named reply = []

-- the number of a module that a reply gives without its name
abbrev pub numbered : Reply → List ℕ
numbered (r.Load load mid) = mid ∷ []
numbered reply = []

-- the numbers of the loads that a reply gives, those of the functions in its values among them
abbrev pub load_numbered : Reply → List ℕ
load_numbered (r.Load load mid) = load ∷ []
load_numbered (r.Yours load text) = load ∷ []
load_numbered (r.Value v) = loads_in v
load_numbered (r.Path items) = flat_map loads_in items
load_numbered (r.Ns state epoch) = flat_map loads_in state.parent_path
load_numbered reply = []

-- the value that stands for the path of a namespace
abbrev pub is_namespace_path : Value → Bool
is_namespace_path values.NsPath = true
is_namespace_path v = false

-- a package without an `__init__.py` (PEP 420)
abbrev pub is_namespace_kind : SpecKind → Bool
is_namespace_kind kinds.Builtin = false
is_namespace_kind (kinds.Source file) = false
is_namespace_kind (kinds.Package file path) = false
is_namespace_kind (kinds.Namespace path) = true

-- the module's `__path__` was read, and is that of a namespace
abbrev pub path_answered : ℕ → Reply → List ℕ
path_answered mid (r.Value v) = if is_namespace_path v then mid ∷ [] else []
path_answered mid reply = []

-- a body of such a spec began
abbrev pub body_answered : SpecKind → Reply → List ℕ
body_answered kind (r.Load load mid) = if is_namespace_kind kind then mid ∷ [] else []
body_answered kind reply = []

-- the module of an event that is shown to have the state of a namespace: a reply gave its
-- `__path__` as that of a namespace, or a body of it began under the spec of a namespace
abbrev pub namespace_of : Event → Reply → List ℕ
namespace_of (e.GetVar mid x raw) reply = if pointwise nat_eq x (codes "__path__") then path_answered mid reply else []
namespace_of (e.Add spec text) reply = body_answered spec.kind reply
namespace_of (e.ReloadTake mid spec text) reply = body_answered spec.kind reply
namespace_of event reply = []

-- a lock is taken only where the reply is Mine
abbrev pub take_answered : List ℕ → List Holding → Reply → List Holding
take_answered n held (r.Mine epoch) = Taken n ∷ held
take_answered n held reply = held

-- the lock that was taken for the module becomes its body
abbrev pub add_answered : List ℕ → List Holding → Reply → List Holding
add_answered n held (r.Load load mid) = becoming (Taken n) (Loading load) held
add_answered n held reply = held

-- the body of a lazy module begins only where the reply is Yours
abbrev pub rouse_answered : List Holding → Reply → List Holding
rouse_answered held (r.Yours load text) = Loading load ∷ held
rouse_answered held reply = held

-- a reload begins only where the reply is Begun, and it has no body yet
abbrev pub begin_answered : ℕ → List Holding → Reply → List Holding
begin_answered mid held (r.Begun epoch) = Reloading mid None ∷ held
begin_answered mid held reply = held

-- the reload without a body becomes the one with this load
abbrev pub reload_answered : ℕ → List Holding → Reply → List Holding
reload_answered mid held (r.Load load other) = becoming (Reloading mid None) (Reloading mid (Some load)) held
reload_answered mid held reply = held

-- what is held after an event and its reply
abbrev pub holds : Event → Reply → List Holding → List Holding
holds (e.Take n) reply held = take_answered n held reply
holds (e.Release n) reply held = without (Taken n) held
holds (e.Add spec text) reply held = add_answered spec.name held reply
holds (e.AddLazy spec text) reply held = without (Taken spec.name) held
holds (e.Finish load good) reply held = without (Loading load) held
holds (e.Rouse mid) reply held = rouse_answered held reply
holds (e.ReloadBegin mid raw) reply held = begin_answered mid held reply
holds (e.ReloadTake mid spec text) reply held = reload_answered mid held reply
holds (e.ReloadEnd mid load) reply held = without (Reloading mid load) held
holds event reply held = held

-- a thread waits where the reply is Wait
abbrev pub answered : Reply → Doing → Doing
answered (r.Wait n) doing = Waiting
answered reply doing = doing

-- Ask, Take, ReloadTake and Rouse may have to wait; Wake ends that, and End ends all
abbrev pub does : Event → Reply → Doing → Doing
does (e.Ask n) reply doing = answered reply doing
does (e.Take n) reply doing = answered reply doing
does (e.ReloadTake mid spec text) reply doing = answered reply doing
does (e.Rouse mid) reply doing = answered reply doing
does e.Wake reply doing = Running
does (e.End outcome spent) reply doing = Over
does event reply doing = doing

-- what one more pair shows
abbrev pub shown_more : Shown → Event × Reply → Shown
shown_more s p = record {
  held = holds p.0 p.1 s.held;
  modules = named p.1 ++ s.modules;
  mids = numbered p.1 ++ s.mids;
  loads = load_numbered p.1 ++ s.loads;
  namespaces = namespace_of p.0 p.1 ++ s.namespaces;
  doing = does p.0 p.1 s.doing;
}

-- what all these pairs show of thread t, one after another
abbrev pub shown : ℕ → List (Event × Reply) → Shown
shown t pairs = fold shown_more (shown_first t) pairs
