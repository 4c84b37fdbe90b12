-- Ask, Take and Wake: who is answered a module, and who waits.
use Rattle.std.specs.Prelude.{ℕ, ◌&&◌, not, List, Option, Some, None, slice_get, if◌then◌else◌}
use Rattle.std.specs.FinMap.{get}
use Rattle.py_value.specs.declared.value.ModRef.{ModRef}
use Rattle.machine_events.specs.declared.module.Slot.{Slot}
use Rattle.machine_events.specs.declared.module.Slot.TheVariants as slots
use Rattle.machine_events.specs.declared.event.Reply.{Reply}
use Rattle.machine_events.specs.declared.event.Reply.TheVariants as replies
use Rattle.module_table.specs.declared.module.Object.{Object}
use Rattle.module_lock.specs.Table.{Table, closes, is_free, owns, got, waiting, woken}
use Rattle.machine_spec.specs.declared.state.State.{State}
use Rattle.machine_spec.specs.Parts.{is_initialising}

-- t waits for n and the reply is Wait, unless that would close a cycle
abbrev pub wait_reply : Table → ℕ → List ℕ → Reply → Reply
wait_reply locks t n blocked = if closes locks t n then blocked else replies.Wait n

-- the locks after that: t waits for n, but where it would close a cycle, nothing changes
abbrev pub wait_after : Table → ℕ → List ℕ → Table
wait_after locks t n = if closes locks t n then locks else waiting locks t n

-- t waits for n, or is answered `blocked` where that closes a cycle (`_ModuleLock.acquire` of `importlib._bootstrap`)
abbrev pub wait_on : State → ℕ → List ℕ → Reply → Reply × State
wait_on s t n blocked = (wait_reply s.locks t n blocked, record s { locks = wait_after s.locks t n })

-- a module that is initialising is waited for by its own name, unless t owns that lock
abbrev pub ask_object : State → ℕ → ModRef → Option Object → Reply × State
ask_object s t m None = (replies.Module m, s)
ask_object s t m (Some o) =
    if is_initialising o.phase && not (owns s.locks t o.spec.name) then wait_on s t o.spec.name (replies.Cycle m)
    else (replies.Module m, s)

-- what is not in the cache is missing where its lock is free for t
abbrev pub ask_none : State → ℕ → List ℕ → Reply × State → Reply × State
ask_none s t n missing = if is_free s.locks t n then missing else wait_on s t n replies.Deadlock

-- the entry None halts the import; a module is given or waited for; what has no entry is missing where its lock is free
-- (`importlib._bootstrap._find_and_load`)
abbrev pub ask_slot : State → ℕ → List ℕ → Reply × State → Option Slot → Reply × State
ask_slot s t n missing None = ask_none s t n missing
ask_slot s t n missing (Some slots.Absent) = ask_none s t n missing
ask_slot s t n missing (Some slots.Halted) = (replies.Halted, s)
ask_slot s t n missing (Some (slots.Module m)) = ask_object s t m (slice_get s.table.objects m.mid)

-- a name is asked for, and no lock is taken
abbrev pub ask : State → ℕ → List ℕ → Reply × State
ask s t n = ask_slot s t n (replies.Missing, s) (get s.table.cache n)

-- the same, but what is missing is t's to load, and t owns its lock once more
abbrev pub take_name : State → ℕ → List ℕ → Reply × State
take_name s t n = ask_slot s t n (replies.Mine s.table.epoch, record s { locks = got s.locks t n }) (get s.table.cache n)

-- t waits no longer; what it waited for it has to ask once more
abbrev pub wake : State → ℕ → Reply × State
wake s t = (replies.Woken, record s { locks = woken s.locks t })
