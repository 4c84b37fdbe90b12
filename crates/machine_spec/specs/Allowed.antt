-- When an event of a thread is allowed.
use Rattle.std.specs.Prelude.{ℕ, ◌==◌, ◌&&◌, not, nat_lt, nat_le, nat_eq, is_none, is_some, count_by, Bool, true, false, List, map, zero, suc, Option, Some, None, slice_get, length, if◌then◌else◌}
use Rattle.std.specs.List.{list_any, list_all}
use Rattle.std.specs.Cmp.Lexicographic.{pointwise}
use Rattle.std.specs.FinMap.{get}
use Rattle.py_value.specs.declared.value.Value.{Value}
use Rattle.py_value.specs.declared.value.Value.TheVariants as values
use Rattle.spec_core.specs.declared.spec.SpecKind.{SpecKind}
use Rattle.spec_core.specs.declared.spec.SpecKind.TheVariants as kinds
use Rattle.machine_events.specs.Loads.{is_same_load}
use Rattle.machine_events.specs.declared.module.Slot.{Slot}
use Rattle.machine_events.specs.declared.module.Slot.TheVariants as slots
use Rattle.machine_events.specs.declared.event.Event.{Event}
use Rattle.machine_events.specs.declared.event.Event.TheVariants as events
use Rattle.module_table.specs.Tables.{reloads}
use Rattle.module_table.specs.declared.table.Table.{Table}
use Rattle.module_table.specs.declared.module.Object.{Object}
use Rattle.module_table.specs.declared.module.Load.{Load}
use Rattle.module_table.specs.declared.module.Reload.{Reload}
use Rattle.module_lock.specs.declared.locks.Lock.{Lock}
use Rattle.module_lock.specs.Table.{lock_of, can_wake, holds}
use Rattle.machine_spec.specs.declared.state.State.{State}
use Rattle.machine_spec.specs.Parts.{is_open, is_main, is_imported}
use Rattle.machine_spec.specs.Known.{names_modules, slot_names_module}

-- the rounds have one entry for each thread, and each thread runs one script
abbrev pub scripts : State → ℕ
scripts s = length s.rounds

-- the thread has made its End, and may make no event more
abbrev pub has_ended : State → ℕ → Bool
has_ended s t = is_some (get s.table.ended t)

-- the first so many threads have ended
abbrev pub all_ended : State → ℕ → Bool
all_ended s zero = true
all_ended s (suc n) = has_ended s n && all_ended s n

-- the threads of the earlier rounds, which are those below the first of its round, have ended
abbrev pub is_due_from : State → Option ℕ → Bool
is_due_from s None = false
is_due_from s (Some first) = all_ended s first

-- the thread is one of the scripts, and its round has begun
abbrev pub is_due : State → ℕ → Bool
is_due s t = is_due_from s (slice_get s.rounds t)

-- the module exists, and was first loaded under this name
abbrev pub has_name : Option Object → List ℕ → Bool
has_name None n = false
has_name (Some o) n = pointwise nat_eq o.spec.name n

-- an open load of t, Main aside
abbrev pub is_open_of : ℕ → Load → Bool
is_open_of t l = is_open l.stage && (l.thread == t) && not (is_main l.kind)

-- the same, of an object of this name
abbrev pub counts_for : Table → ℕ → List ℕ → Load → Bool
counts_for table t n l = is_open_of t l && has_name (slice_get table.objects l.mid) n

-- the lock is t's, and its count is above this number of open loads; a lock that nobody owns has none to spare
abbrev pub spare_of : ℕ → ℕ → Option Lock → Bool
spare_of t opens None = false
spare_of t opens (Some lock) = (lock.owner == t) && nat_lt opens lock.count

-- t owns lock n with a count above the number of its open loads, Main aside, of objects named n
abbrev pub has_spare : State → ℕ → List ℕ → Bool
has_spare s t n = spare_of t (count_by (counts_for s.table t n) s.table.loads) (lock_of s.locks n)

-- a spec that can be loaded with this text: a namespace has none
abbrev pub has_text : SpecKind → List ℕ → Bool
has_text kinds.Builtin text = false
has_text (kinds.Source file) text = true
has_text (kinds.Package file path) text = true
has_text (kinds.Namespace path) text = length text == 0

-- only a source or a package has a body that can wait for the first use
abbrev pub has_body : SpecKind → Bool
has_body kinds.Builtin = false
has_body (kinds.Source file) = true
has_body (kinds.Package file path) = true
has_body (kinds.Namespace path) = false

-- only a module of one file runs as a program, and no package
abbrev pub is_source : SpecKind → Bool
is_source kinds.Builtin = false
is_source (kinds.Source file) = true
is_source (kinds.Package file path) = false
is_source (kinds.Namespace path) = false

-- an open load of t, of kind Plain or Lazy
abbrev pub can_finish : ℕ → Option Load → Bool
can_finish t None = false
can_finish t (Some l) = is_open l.stage && (l.thread == t) && is_imported l.kind

-- modules are numbered from 0 on in the order in which they were made, and none is ever taken away
abbrev pub has_object : State → ℕ → Bool
has_object s mid = nat_lt mid (length s.table.objects)

-- the value that stands for the path of a namespace, which no SetVar may set
abbrev pub is_ns_path : Value → Bool
is_ns_path values.NsPath = true
is_ns_path _ = false

-- a value that may stand in the search path
abbrev pub is_path_item : Value → Bool
is_path_item values.SysModules = false
is_path_item values.SysPath = false
is_path_item values.NsPath = false
is_path_item _ = true

-- absence cannot be set as an entry; the entry None, which halts an import, can
abbrev pub is_absent : Slot → Bool
is_absent slots.Absent = true
is_absent slots.Halted = false
is_absent (slots.Module m) = false

-- the module exists, and has the state of a namespace's search
abbrev pub has_ns : Option Object → Bool
has_ns None = false
has_ns (Some o) = is_some o.ns

-- t reloads the object, by this load or by none yet
abbrev pub is_reload : ℕ → ℕ → Option ℕ → Option Reload → Bool
is_reload t mid load None = false
is_reload t mid load (Some r) = (r.thread == t) && (r.mid == mid) && is_same_load r.load load

-- the same, of the reload that runs under the module's name; what is no module is not reloaded
abbrev pub reloads_object : State → ℕ → ℕ → Option ℕ → Option Object → Bool
reloads_object s t mid load None = false
reloads_object s t mid load (Some o) = is_reload t mid load (get s.table.reloading o.spec.name)

-- the same, of the module with this number
abbrev pub is_reloading : State → ℕ → ℕ → Option ℕ → Bool
is_reloading s t mid load = reloads_object s t mid load (slice_get s.table.objects mid)

-- t owns no lock, reloads nothing and has no open load but its Main
abbrev pub can_end : State → ℕ → Bool
can_end s t = not (holds s.locks t) && not (reloads s.table t) && not (list_any (is_open_of t) s.table.loads)

-- what an event asks beside the conditions on the thread
abbrev pub fits : State → ℕ → Event → Bool
fits s t (events.Ask n) = true
fits s t (events.Take n) = true
fits s t events.Wake = false
fits s t (events.Add spec text) = has_spare s t spec.name && has_text spec.kind text
fits s t (events.Finish load good) = can_finish t (slice_get s.table.loads load)
fits s t (events.Release n) = has_spare s t n
fits s t (events.GetVar mid x raw) = has_object s mid
fits s t (events.SetVar raw mid x v) = has_object s mid && not (is_ns_path v) && names_modules s.table v
fits s t (events.DelVar mid x raw) = has_object s mid
fits s t (events.Names mid) = has_object s mid
fits s t (events.Source load) = nat_lt load (length s.table.loads)
fits s t (events.Print text) = nat_le (length text) 65536
fits s t events.PathGet = true
fits s t (events.PathAdd at v) = is_path_item v && names_modules s.table v
fits s t (events.DirGet dir part) = true
fits s t (events.DirSet dir listing) = true
fits s t events.Invalidate = true
fits s t (events.NsGet mid) = has_ns (slice_get s.table.objects mid)
fits s t (events.NsSet mid state) = has_ns (slice_get s.table.objects mid) && list_all (λ b. b) (map (names_modules s.table) state.parent_path)
fits s t (events.TabGet n) = true
fits s t (events.TabSet n slot) = not (is_absent slot) && slot_names_module s.table slot
fits s t (events.TabDel n) = true
fits s t (events.ReloadBegin mid raw) = has_object s mid
fits s t (events.ReloadTake mid spec text) =
    is_reloading s t mid None && has_name (slice_get s.table.objects mid) spec.name && has_text spec.kind text
fits s t (events.ReloadEnd mid load) = is_reloading s t mid load
fits s t (events.AddLazy spec text) = has_spare s t spec.name && has_body spec.kind
fits s t (events.Rouse mid) = has_object s mid
fits s t (events.Main spec text) = is_source spec.kind
fits s t (events.End outcome spent) = can_end s t

-- the one event of a thread that waits
abbrev pub is_wake : Event → Bool
is_wake events.Wake = true
is_wake _ = false

-- a thread wakes where nobody else owns the lock that it waits for; every other event needs that it does
-- not wait
abbrev pub has_leave : State → ℕ → Event → Bool
has_leave s t e = if is_wake e then can_wake s.locks t else is_none (get s.locks.waits t) && fits s t e

-- the thread is a script of a round that has begun, and has not ended
abbrev pub allowed : State → ℕ → Event → Bool
allowed s t e = is_due s t && not (has_ended s t) && has_leave s t e
