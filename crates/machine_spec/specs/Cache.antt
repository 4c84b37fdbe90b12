-- TabGet, TabSet and TabDel: `sys.modules` as scripts see it.
use Rattle.std.specs.Prelude.{ℕ, codes, nat_eq, ◌||◌, Bool, List, if◌then◌else◌}
use Rattle.std.specs.Cmp.Lexicographic.{pointwise}
use Rattle.std.specs.FinMap.{get}
use Rattle.machine_events.specs.declared.module.Slot.{Slot}
use Rattle.machine_events.specs.declared.event.Reply.{Reply}
use Rattle.machine_events.specs.declared.event.Reply.TheVariants as replies
use Rattle.module_table.specs.Tables.{with_entry, without_entry}
use Rattle.machine_spec.specs.declared.state.State.{State}
use Rattle.machine_spec.specs.Parts.{entry_of}

-- the three modules that stand in the cache from the start cannot be replaced
abbrev pub is_fixed : List ℕ → Bool
is_fixed n = pointwise nat_eq n (codes "sys") || pointwise nat_eq n (codes "importlib") || pointwise nat_eq n (codes "pyimport")

-- an item of `sys.modules` is read; a name without an entry is answered Absent, and the entry None Halted
abbrev pub tab_get : State → List ℕ → Reply × State
tab_get s n = (replies.Slot (entry_of (get s.table.cache n)), s)

-- an item of `sys.modules` is set, to a module or None, unless its name is fixed (Language Reference 5.3.1)
abbrev pub tab_set : State → List ℕ → Slot → Reply × State
tab_set s n slot = if is_fixed n then (replies.Fixed, s) else (replies.Done, record s { table = with_entry s.table n slot })

-- an item of `sys.modules` is deleted and answered, unless its name is
-- fixed; a module lives on without its entry (Language Reference 5.3.1)
abbrev pub tab_del : State → List ℕ → Reply × State
tab_del s n =
    if is_fixed n then (replies.Fixed, s)
    else (replies.Was (entry_of (get s.table.cache n)), record s { table = without_entry s.table n })
