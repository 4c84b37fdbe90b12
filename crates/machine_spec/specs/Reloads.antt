-- ReloadBegin, ReloadTake and ReloadEnd.
use Rattle.std.specs.Prelude.{ℕ, ◌==◌, Bool, false, List, Option, Some, None, length, slice_get, if◌then◌else◌}
use Rattle.std.specs.FinMap.{get}
use Rattle.spec_core.specs.declared.spec.Spec.{Spec}
use Rattle.machine_events.specs.Modules.{module_of}
use Rattle.machine_events.specs.declared.module.Slot.{Slot}
use Rattle.machine_events.specs.declared.module.Slot.TheVariants as slots
use Rattle.machine_events.specs.declared.event.Reply.{Reply}
use Rattle.machine_events.specs.declared.event.Reply.TheVariants as replies
use Rattle.module_table.specs.Tables.{with_reload, without_reload, with_reloaded, with_end}
use Rattle.module_table.specs.declared.module.Object.{Object}
use Rattle.module_table.specs.declared.module.Reload.{Reload}
use Rattle.module_lock.specs.Table.{is_free, got, given}
use Rattle.machine_spec.specs.declared.state.State.{State}
use Rattle.machine_spec.specs.Parts.{is_built_in}
use Rattle.machine_spec.specs.Variables.{sleeping}
use Rattle.machine_spec.specs.Waits.{wait_on}

-- the entry is this module
abbrev pub is_entry : ℕ → Option Slot → Bool
is_entry mid None = false
is_entry mid (Some slots.Absent) = false
is_entry mid (Some slots.Halted) = false
is_entry mid (Some (slots.Module m)) = m.mid == mid

-- the module of a number
abbrev pub busy_of : ℕ → Option Object → Reply
busy_of mid None = replies.NotThere
busy_of mid (Some o) = replies.Busy (module_of o.spec mid)

-- a name whose reload runs is busy with that module; else the reload is entered
abbrev pub enter : State → ℕ → ℕ → List ℕ → Option Reload → Reply × State
enter s t mid n (Some r) = (busy_of r.mid (slice_get s.table.objects r.mid), s)
enter s t mid n None =
    (replies.Begun s.table.epoch, record s { table = with_reload s.table n (record { thread = t; mid = mid; load = None }) })

-- a built-in module is fixed, and one that sleeps is to be roused first; then the module must be the entry of its name
-- (`importlib.reload`: `sys.modules.get(name) is not module`)
abbrev pub reload_begin_on : State → ℕ → ℕ → Bool → Option Object → Reply × State
reload_begin_on s t mid raw None = (replies.NotThere, s)
reload_begin_on s t mid raw (Some o) =
    if is_built_in o.spec.kind then (replies.Fixed, s)
    else (if sleeping s t raw o then (replies.Sleeping, s)
    else (if is_entry mid (get s.table.cache o.spec.name) then enter s t mid o.spec.name (get s.table.reloading o.spec.name)
    else (replies.NotThere, s)))

-- how `importlib.reload` begins, before it searches; what is no module is not there
abbrev pub reload_begin : State → ℕ → ℕ → Bool → Reply × State
reload_begin s t mid raw = reload_begin_on s t mid raw (slice_get s.table.objects mid)

-- t owns the lock once more, the start variables are set, and the next load, of kind Reload, is t's and open
abbrev pub reload_start : State → ℕ → ℕ → Spec → List ℕ → Reply × State
reload_start s t mid spec text = (
  replies.Load (length s.table.loads) mid,
  record s { table = with_reloaded s.table t mid spec text; locks = got s.locks t spec.name },
)

-- under the lock of its name the module must still be the entry
-- (`importlib._bootstrap._exec`); a lock that another owns is waited for
abbrev pub reload_take : State → ℕ → ℕ → Spec → List ℕ → Reply × State
reload_take s t mid spec text =
    if is_free s.locks t spec.name
    then (if is_entry mid (get s.table.cache spec.name) then reload_start s t mid spec text else (replies.NotThere, s))
    else wait_on s t spec.name replies.Deadlock

-- a reload gives the entry that the cache has at its end, for the body may have replaced or dropped it
abbrev pub kept_or_lost : Option Slot → Reply
kept_or_lost None = replies.Lost
kept_or_lost (Some slot) = replies.Kept slot

-- the name leaves the reloads; a load is ended and the lock is given back once
abbrev pub reload_leave : State → ℕ → List ℕ → Option ℕ → Reply × State
reload_leave s t n None = (replies.Done, record s { table = without_reload s.table n })
reload_leave s t n (Some load) = (
  kept_or_lost (get s.table.cache n),
  record s { table = with_end (without_reload s.table n) load; locks = given s.locks t n },
)

-- the reload under the module's name is left; what is no module changes nothing
abbrev pub reload_end_on : State → ℕ → Option ℕ → Option Object → Reply × State
reload_end_on s t load None = (replies.Done, s)
reload_end_on s t load (Some o) = reload_leave s t o.spec.name load

-- how `importlib.reload` ends, also by an error: with the load of its body, or with none where that never began
abbrev pub reload_end : State → ℕ → ℕ → Option ℕ → Reply × State
reload_end s t mid load = reload_end_on s t load (slice_get s.table.objects mid)
