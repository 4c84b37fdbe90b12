-- The state before the first event.
use Rattle.std.specs.Prelude.{ℕ, ◌+◌, replicate, codes, List, [], ◌∷◌, ◌++◌, Some, None, map, length}
use Rattle.std.specs.FinMap.{empty}
use Rattle.py_value.specs.declared.value.Value.{Value}
use Rattle.py_value.specs.declared.value.Value.TheVariants as values
use Rattle.py_value.specs.declared.kind.Native.TheVariants as natives
use Rattle.spec_core.specs.declared.spec.Spec.{Spec}
use Rattle.spec_core.specs.declared.spec.SpecKind.TheVariants as kinds
use Rattle.machine_events.specs.Modules.{module_of}
use Rattle.machine_events.specs.declared.module.Slot.TheVariants as slots
use Rattle.module_table.specs.declared.table.Table.{Table}
use Rattle.module_table.specs.declared.module.Object.{Object}
use Rattle.module_table.specs.declared.module.Load.{Load}
use Rattle.module_table.specs.declared.module.LoadKind.TheVariants as load_kinds
use Rattle.module_table.specs.declared.module.LoadStage.TheVariants as stages
use Rattle.module_table.specs.declared.module.Phase.TheVariants as phases
use Rattle.module_table.specs.Tables.{new_table, with_object, with_entry}
use Rattle.machine_spec.specs.declared.state.State.{State}

-- script i: a module `__main__` of its own, which is not in the cache
abbrev pub script_spec : List ℕ → Spec
script_spec script = record { name = codes "__main__"; kind = kinds.Source script }

-- a program is `__main__`, whatever its file is called, and in no package, so its `__package__` is None
abbrev pub script_vars : List ℕ → List (List ℕ × Value)
script_vars script =
    (codes "__name__", values.Text (codes "__main__")) ∷ (codes "__package__", values.Nothing) ∷ (codes "__file__", values.Text script) ∷ []

-- the module of script i, whose load has the number i; it is ready from the start, so that nobody waits for it
abbrev pub script_object : ℕ → List ℕ → Object
script_object i script = record {
  spec = script_spec script;
  phase = phases.Ready;
  vars = script_vars script;
  ns = None;
  load = Some i;
}

-- its load, which is open from the start
abbrev pub script_load : ℕ → List ℕ → Load
script_load i text = record { kind = load_kinds.Main; thread = i; mid = i; text = text; stage = stages.Open }

-- the scripts from number i on
abbrev pub script_objects : ℕ → List (List ℕ) → List Object
script_objects i [] = []
script_objects i (script ∷ scripts) = script_object i script ∷ script_objects (i + 1) scripts

-- their loads, each with the number of its script
abbrev pub script_loads : ℕ → List (List ℕ) → List Load
script_loads i [] = []
script_loads i (text ∷ texts) = script_load i text ∷ script_loads (i + 1) texts

-- a module that stands in the cache from the start
abbrev pub built_in : List ℕ → List (List ℕ × Value) → Object
built_in name vars = record {
  spec = record { name = name; kind = kinds.Builtin };
  phase = phases.Ready;
  vars = (codes "__name__", values.Text name) ∷ vars;
  ns = None;
  load = None;
}

-- its two variables stand for the cache and for the search path, which live in the machine
abbrev pub sys_module : Object
sys_module = built_in (codes "sys") ((codes "modules", values.SysModules) ∷ (codes "path", values.SysPath) ∷ [])

-- its two functions drop what is kept of the search and load a module once more
abbrev pub importlib_module : Object
importlib_module = built_in (codes "importlib") ((codes "invalidate_caches", values.Native natives.InvalidateCaches) ∷ (codes "reload", values.Native natives.Reload) ∷ [])

-- this project's own module, with the function that imports a module whose body waits for the first use
abbrev pub pyimport_module : Object
pyimport_module = built_in (codes "pyimport") ((codes "lazy", values.Native natives.Lazy) ∷ [])

-- the next object, with itself in the cache
abbrev pub with_cached : Table → Object → Table
with_cached table object =
    with_entry (with_object table object) object.spec.name (slots.Module (module_of object.spec (length table.objects)))

-- the three modules that are in the cache from the start, with the next numbers in this order
abbrev pub with_built_ins : Table → Table
with_built_ins table = with_cached (with_cached (with_cached table sys_module) importlib_module) pyimport_module

-- the scripts with their loads, behind what a table has
abbrev pub with_scripts : List (List ℕ) → List (List ℕ) → Table → Table
with_scripts scripts texts table = record table {
  objects = table.objects ++ script_objects 0 scripts;
  loads = table.loads ++ script_loads 0 texts;
}

-- for each thread the number of the first one of its round, from the sizes of the rounds
abbrev pub round_starts : ℕ → List ℕ → List ℕ
round_starts first [] = []
round_starts first (size ∷ sizes) = replicate size first ++ round_starts (first + size) sizes

-- nobody owns or awaits a lock and no listing is kept; the modules of the scripts have the first numbers
abbrev pub opening : List (List ℕ) → List (List ℕ) → List (List ℕ) → List ℕ → State
opening scripts texts path rounds = record {
  table = with_built_ins (with_scripts scripts texts (new_table (map (λ text. values.Text text) path)));
  locks = record { locks = empty; waits = empty };
  listings = empty;
  rounds = round_starts 0 rounds;
}
