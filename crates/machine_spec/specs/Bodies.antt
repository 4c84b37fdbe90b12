-- Add, Finish, Release, Source, Main and End: how bodies begin and end.
use Rattle.std.specs.Prelude.{ℕ, Bool, List, Option, Some, None, length, slice_get, if◌then◌else◌}
use Rattle.std.specs.FinMap.{get}
use Rattle.spec_core.specs.Names.{parent_of, tail_of}
use Rattle.spec_core.specs.declared.spec.Spec.{Spec}
use Rattle.machine_events.specs.Modules.{module_of}
use Rattle.machine_events.specs.declared.module.Slot.{Slot}
use Rattle.machine_events.specs.declared.module.Slot.TheVariants as slots
use Rattle.machine_events.specs.declared.event.Reply.{Reply}
use Rattle.machine_events.specs.declared.event.Reply.TheVariants as replies
use Rattle.module_table.specs.Tables.{with_unit, with_phase, with_set, with_end, without_entry, with_main, with_ended}
use Rattle.module_table.specs.declared.module.Object.{Object}
use Rattle.module_table.specs.declared.module.Load.{Load}
use Rattle.module_table.specs.declared.module.LoadKind.{LoadKind}
use Rattle.module_table.specs.declared.module.LoadKind.TheVariants as load_kinds
use Rattle.module_table.specs.declared.module.LoadStage.TheVariants as stages
use Rattle.module_table.specs.declared.module.Phase.TheVariants as phases
use Rattle.module_lock.specs.Table.{given}
use Rattle.machine_spec.specs.declared.state.State.{State}
use Rattle.machine_spec.specs.Parts.{entry_of, value_of, is_built_in_place}

-- the next object, initialising, and the next load, t's and open, with the module in the cache
abbrev pub add : State → ℕ → Spec → List ℕ → Reply × State
add s t spec text = (
  replies.Load (length s.table.loads) (length s.table.objects),
  record s { table = with_unit s.table spec phases.Initialising load_kinds.Plain t text stages.Open },
)

-- the parent has the entry as a variable, under the last part of the name; a built-in parent is not changed
abbrev pub bound : State → List ℕ → Slot → Slot → State
bound s n entry slots.Absent = s
bound s n entry slots.Halted = s
bound s n entry (slots.Module m) =
    if is_built_in_place m.place then s else record s { table = with_set s.table m.mid (tail_of n) (value_of entry) }

-- a parent without an entry is lost (`importlib._bootstrap._find_and_load_unlocked` fails at `sys.modules[parent]`),
-- and nothing is bound; the child has its entry all the same
abbrev pub bind_under : State → List ℕ → Slot → Option Slot → Reply × State
bind_under s n entry None = (replies.LostParent, s)
bind_under s n entry (Some parent) = (replies.Kept entry, bound s n entry parent)

-- a child is bound in its parent's namespace (Language Reference 5.4.2); a name without a parent is bound nowhere
abbrev pub bind_parent : State → List ℕ → Slot → Option (List ℕ) → Reply × State
bind_parent s n entry None = (replies.Kept entry, s)
bind_parent s n entry (Some parent) = bind_under s n entry (get s.table.cache parent)

-- how a good load ends: the entry is read, and a parent gets it
abbrev pub good_entry : State → LoadKind → List ℕ → Option Slot → Reply × State
good_entry s load_kinds.Plain n None = (replies.Lost, s)
good_entry s load_kinds.Plain n (Some entry) = bind_parent s n entry (parent_of n)
good_entry s kind n entry = (replies.Kept (entry_of entry), s)

-- a bad load drops the entry
abbrev pub finish_entry : State → LoadKind → Bool → List ℕ → Reply × State
finish_entry s kind good n =
    if good then good_entry s kind n (get s.table.cache n)
    else (replies.Kept slots.Absent, record s { table = without_entry s.table n })

-- the load is ended, its module is ready, and the lock is given back once
abbrev pub closed : ℕ → ℕ → ℕ → List ℕ → State → State
closed t load mid n s = record s { table = with_phase (with_end s.table load) mid phases.Ready; locks = given s.locks t n }

-- the entry and the parent are seen to first, and then the load is closed; what is no module changes nothing
abbrev pub finish_object : State → ℕ → ℕ → Bool → Load → Option Object → Reply × State
finish_object s t load good l None = (replies.Done, s)
finish_object s t load good l (Some o) =
    ((finish_entry s l.kind good o.spec.name).0, closed t load l.mid o.spec.name (finish_entry s l.kind good o.spec.name).1)

-- the same, of the module of the load; what is no load changes nothing
abbrev pub finish_load : State → ℕ → ℕ → Bool → Option Load → Reply × State
finish_load s t load good None = (replies.Done, s)
finish_load s t load good (Some l) = finish_object s t load good l (slice_get s.table.objects l.mid)

-- a body has ended, good or by an error (`_load_unlocked` and `_find_and_load_unlocked` of `importlib._bootstrap`)
abbrev pub finish : State → ℕ → ℕ → Bool → Reply × State
finish s t load good = finish_load s t load good (slice_get s.table.loads load)

-- a lock that was taken is given back once, without a body
abbrev pub release : State → ℕ → List ℕ → Reply × State
release s t n = (replies.Done, record s { locks = given s.locks t n })

-- a load tells its module and its text, as they are now
abbrev pub loaded_from : Load → Option Object → Reply
loaded_from l None = replies.Done
loaded_from l (Some o) = replies.Loaded (module_of o.spec l.mid) l.text

-- the same, where there is such a load
abbrev pub loaded_by : State → Option Load → Reply
loaded_by s None = replies.Done
loaded_by s (Some l) = loaded_from l (slice_get s.table.objects l.mid)

-- a load is read, and nothing changes
abbrev pub source : State → ℕ → Reply × State
source s load = (loaded_by s (slice_get s.table.loads load), s)

-- load t has this text, and object t the package and the file of the spec
abbrev pub main : State → ℕ → Spec → List ℕ → Reply × State
main s t spec text = (replies.Done, record s { table = with_main s.table t spec text })

-- the thread has ended; its load of kind Main stays open
abbrev pub end : State → ℕ → Reply × State
end s t = (replies.Done, record s { table = with_ended s.table t })
