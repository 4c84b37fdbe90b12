-- The modules that a value names, at any depth, and the loads of its functions.
use Rattle.std.specs.Prelude.{ℕ, ◌&&◌, nat_eq, nat_lt, length, Bool, true, false, List, Option, Some, None, slice_get}
use Rattle.std.specs.List.{list_all}
use Rattle.std.specs.Cmp.Lexicographic.{pointwise}
use Rattle.py_value.specs.declared.value.ModRef.{ModRef}
use Rattle.py_value.specs.declared.value.Place.{Place}
use Rattle.py_value.specs.declared.value.Place.TheVariants as places
use Rattle.py_value.specs.declared.value.Value.{Value}
use Rattle.py_value.specs.declared.value.Value.TheOpen.{Value-F}
use Rattle.py_value.specs.declared.value.Value.TheFolds.{fold-Value}
use Rattle.spec_core.specs.declared.spec.SpecKind.{SpecKind}
use Rattle.spec_core.specs.declared.spec.SpecKind.TheVariants as kinds
use Rattle.machine_events.specs.declared.module.Slot.{Slot}
use Rattle.machine_events.specs.declared.module.Slot.TheVariants as slots
use Rattle.module_table.specs.declared.module.Object.{Object}
use Rattle.module_table.specs.declared.table.Table.{Table}

-- the place is a file, and this one
abbrev pub is_file : List ℕ → Place → Bool
is_file file (places.File other) = pointwise nat_eq file other
is_file file places.BuiltIn = false
is_file file places.Namespace = false

-- the place of a namespace package, which is no file (PEP 420)
abbrev pub is_namespace : Place → Bool
is_namespace (places.File other) = false
is_namespace places.BuiltIn = false
is_namespace places.Namespace = true

-- the place of a module that the machine has from the start
abbrev pub is_built_in_there : Place → Bool
is_built_in_there (places.File other) = false
is_built_in_there places.BuiltIn = true
is_built_in_there places.Namespace = false

-- the place is the one that a spec of this kind gives
abbrev pub is_place_of : SpecKind → Place → Bool
is_place_of kinds.Builtin place = is_built_in_there place
is_place_of (kinds.Source file) place = is_file file place
is_place_of (kinds.Package file path) place = is_file file place
is_place_of (kinds.Namespace path) place = is_namespace place

-- the module exists, and has the name and the place that the spec of its object gives
abbrev pub is_module_of : ModRef → Option Object → Bool
is_module_of m None = false
is_module_of m (Some o) = pointwise nat_eq o.spec.name m.name && is_place_of o.spec.kind m.place

-- the same, of the object with the module's number
abbrev pub is_module : Table → ModRef → Bool
is_module table m = is_module_of m (slice_get table.objects m.mid)

-- one layer of a value, for which each item below is already told
abbrev pub names_modules_at : Table → Value-F Bool → Bool
names_modules_at table (Value-F.Module m) = is_module table m
names_modules_at table (Value-F.Func load index name) = nat_lt load (length table.loads)
names_modules_at table (Value-F.List items) = list_all (λ b. b) items
names_modules_at table (Value-F.Tuple items) = list_all (λ b. b) items
names_modules_at table _ = true

-- each module in the value is one of the table's, and so is the load of each function in it
abbrev pub names_modules : Table → Value → Bool
names_modules table = fold-Value Bool (names_modules_at table)

-- only an entry that is a module names one
abbrev pub slot_names_module : Table → Slot → Bool
slot_names_module table slots.Absent = true
slot_names_module table slots.Halted = true
slot_names_module table (slots.Module m) = is_module table m
