-- What the rows of the events ask of phases, loads, slots and specs.
use Rattle.std.specs.Prelude.{Bool, true, false, Option, Some, None}
use Rattle.py_value.specs.declared.value.Place.{Place}
use Rattle.py_value.specs.declared.value.Place.TheVariants as places
use Rattle.py_value.specs.declared.value.Value.{Value}
use Rattle.py_value.specs.declared.value.Value.TheVariants as values
use Rattle.spec_core.specs.declared.spec.SpecKind.{SpecKind}
use Rattle.spec_core.specs.declared.spec.SpecKind.TheVariants as kinds
use Rattle.machine_events.specs.declared.module.Slot.{Slot}
use Rattle.machine_events.specs.declared.module.Slot.TheVariants as slots
use Rattle.module_table.specs.declared.module.LoadKind.{LoadKind}
use Rattle.module_table.specs.declared.module.LoadKind.TheVariants as load_kinds
use Rattle.module_table.specs.declared.module.LoadStage.{LoadStage}
use Rattle.module_table.specs.declared.module.LoadStage.TheVariants as stages
use Rattle.module_table.specs.declared.module.Phase.{Phase}
use Rattle.module_table.specs.declared.module.Phase.TheVariants as phases

-- the body is running, as `__spec__._initializing` tells in `importlib._bootstrap`
abbrev pub is_initialising : Phase → Bool
is_initialising phases.Ready = false
is_initialising phases.Initialising = true
is_initialising phases.Lazy = false

-- the body has begun and has not ended
abbrev pub is_open : LoadStage → Bool
is_open stages.Resting = false
is_open stages.Open = true
is_open stages.Ended = false

-- the body of a script itself, for which no lock is owned
abbrev pub is_main : LoadKind → Bool
is_main load_kinds.Main = true
is_main load_kinds.Plain = false
is_main load_kinds.Lazy = false
is_main load_kinds.Reload = false

-- the body of a module that was made to run it at the first use, before, at and after that
abbrev pub is_lazy : LoadKind → Bool
is_lazy load_kinds.Main = false
is_lazy load_kinds.Plain = false
is_lazy load_kinds.Lazy = true
is_lazy load_kinds.Reload = false

-- the load of a module that is imported, now or at its first use
abbrev pub is_imported : LoadKind → Bool
is_imported load_kinds.Main = false
is_imported load_kinds.Plain = true
is_imported load_kinds.Lazy = true
is_imported load_kinds.Reload = false

-- a module that the machine has from the start: it has no text, and nothing changes its variables
abbrev pub is_built_in : SpecKind → Bool
is_built_in kinds.Builtin = true
is_built_in (kinds.Source file) = false
is_built_in (kinds.Package file path) = false
is_built_in (kinds.Namespace path) = false

-- the same, told by where the module comes from
abbrev pub is_built_in_place : Place → Bool
is_built_in_place (places.File file) = false
is_built_in_place places.BuiltIn = true
is_built_in_place places.Namespace = false

-- a name that is not in the cache has the slot Absent
abbrev pub entry_of : Option Slot → Slot
entry_of None = slots.Absent
entry_of (Some slot) = slot

-- what an entry is as a value: a halted entry is None
abbrev pub value_of : Slot → Value
value_of slots.Absent = values.Nothing
value_of slots.Halted = values.Nothing
value_of (slots.Module m) = values.Module m
