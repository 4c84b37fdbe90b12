-- AddLazy and Rouse.
use Rattle.std.specs.Prelude.{ℕ, List, Option, Some, None, length, slice_get, if◌then◌else◌}
use Rattle.spec_core.specs.declared.spec.Spec.{Spec}
use Rattle.machine_events.specs.Modules.{module_of}
use Rattle.machine_events.specs.declared.event.Reply.{Reply}
use Rattle.machine_events.specs.declared.event.Reply.TheVariants as replies
use Rattle.module_table.specs.Tables.{with_unit, with_open, with_phase}
use Rattle.module_table.specs.declared.module.Object.{Object}
use Rattle.module_table.specs.declared.module.Load.{Load}
use Rattle.module_table.specs.declared.module.LoadKind.TheVariants as load_kinds
use Rattle.module_table.specs.declared.module.LoadStage.TheVariants as stages
use Rattle.module_table.specs.declared.module.Phase.{Phase}
use Rattle.module_table.specs.declared.module.Phase.TheVariants as phases
use Rattle.module_lock.specs.Table.{is_free, owns, got, given}
use Rattle.machine_spec.specs.declared.state.State.{State}
use Rattle.machine_spec.specs.Waits.{wait_on}

-- the next object, lazy, and the next load, resting, with the module in the cache; the lock is given back once
abbrev pub add_lazy : State → ℕ → Spec → List ℕ → Reply × State
add_lazy s t spec text = (
  replies.Module (module_of spec (length s.table.objects)),
  record s { table = with_unit s.table spec phases.Lazy load_kinds.Lazy t text stages.Resting; locks = given s.locks t spec.name },
)

-- the resting load is t's and open, the module is initialising, and t owns its lock once more
abbrev pub open_lazy : State → ℕ → ℕ → List ℕ → ℕ → Option Load → Reply × State
open_lazy s t mid n load None = (replies.Ready, s)
open_lazy s t mid n load (Some l) = (
  replies.Yours load l.text,
  record s { table = with_phase (with_open s.table load t) mid phases.Initialising; locks = got s.locks t n },
)

-- the body begins where the lock is free for t; else t waits for it, and where that closes a cycle, it is a deadlock
abbrev pub rouse_lazy : State → ℕ → ℕ → List ℕ → Option ℕ → Reply × State
rouse_lazy s t mid n None = (replies.Ready, s)
rouse_lazy s t mid n (Some load) =
    if is_free s.locks t n then open_lazy s t mid n load (slice_get s.table.loads load)
    else wait_on s t n replies.Deadlock

-- a ready module has nothing to run; one that is initialising is as ready as it gets for who owns its lock, and any
-- other waits for it or is given it as far as it is; a lazy one is to run its body
abbrev pub rouse_phase : State → ℕ → ℕ → Object → Phase → Reply × State
rouse_phase s t mid o phases.Ready = (replies.Ready, s)
rouse_phase s t mid o phases.Initialising =
    if owns s.locks t o.spec.name then (replies.Ready, s)
    else wait_on s t o.spec.name (replies.Cycle (module_of o.spec mid))
rouse_phase s t mid o phases.Lazy = rouse_lazy s t mid o.spec.name o.load

-- what is no module has nothing to run
abbrev pub rouse_on : State → ℕ → ℕ → Option Object → Reply × State
rouse_on s t mid None = (replies.Ready, s)
rouse_on s t mid (Some o) = rouse_phase s t mid o o.phase

-- the first use of a module that may be lazy (`LazyLoader` of `importlib.util`; the locking is this project's own)
abbrev pub rouse : State → ℕ → ℕ → Reply × State
rouse s t mid = rouse_on s t mid (slice_get s.table.objects mid)
