-- What the calls of a table do to it.
use Rattle.std.specs.Prelude.{ℕ, ℤ, codes, Bool, List, [], ◌∷◌, ◌++◌, take, drop, length, Option, Some, None, nat_lt, ◌==◌, if◌then◌else◌}
use Rattle.std.specs.FinMap.{get, insert, remove, empty, values}
use Rattle.std.specs.List.{list_any}
use Rattle.py_value.specs.declared.value.Value.{Value}
use Rattle.py_value.specs.declared.value.Value.TheVariants as values_
use Rattle.py_value.specs.declared.value.NsState.{NsState}
use Rattle.spec_core.specs.declared.spec.Spec.{Spec}
use Rattle.spec_core.specs.declared.spec.SpecKind.{SpecKind}
use Rattle.spec_core.specs.declared.spec.SpecKind.TheVariants as kinds
use Rattle.module_table.specs.declared.module.Object.{Object}
use Rattle.module_table.specs.declared.module.Load.{Load}
use Rattle.module_table.specs.declared.module.LoadKind.{LoadKind}
use Rattle.module_table.specs.declared.module.LoadKind.TheVariants as load_kinds
use Rattle.module_table.specs.declared.module.LoadStage.{LoadStage}
use Rattle.module_table.specs.declared.module.LoadStage.TheVariants as stages
use Rattle.module_table.specs.declared.module.Phase.{Phase}
use Rattle.module_table.specs.declared.module.Reload.{Reload}
use Rattle.machine_events.specs.declared.module.Slot.{Slot}
use Rattle.machine_events.specs.declared.module.Slot.TheVariants as slots
use Rattle.machine_events.specs.Modules.{module_of}
use Rattle.module_table.specs.declared.table.Table.{Table}
use Rattle.spec_core.specs.Packages.{package_of}
use Rattle.module_table.specs.Path.{place_from}
use Rattle.module_table.specs.Lists.{changed}
use Rattle.module_table.specs.Start.{start_vars, start_ns, restarted}
use Rattle.module_table.specs.Vars.{with_var, without_var}

-- a search path, the epoch 0, and nothing else
abbrev pub new_table : List Value → Table
new_table path = record { cache = empty; objects = []; loads = []; path = path; epoch = 0; reloading = empty; ended = empty }

-- the object that a spec makes, with the load that it is made with
abbrev pub object_of : Spec → Phase → Option ℕ → Object
object_of spec phase load = record { spec = spec; phase = phase; vars = start_vars spec; ns = start_ns spec.kind; load = load }

-- the object goes last, so its number is how many there were
abbrev pub with_object : Table → Object → Table
with_object table object = record table { objects = table.objects ++ object ∷ [] }

-- the load goes last, so its number is how many there were
abbrev pub with_load : Table → Load → Table
with_load table load = record table { loads = table.loads ++ load ∷ [] }

-- the next object and its load, with the module in the cache
abbrev pub with_unit : Table → Spec → Phase → LoadKind → ℕ → List ℕ → LoadStage → Table
with_unit table spec phase kind thread text stage = record table {
  objects = table.objects ++ object_of spec phase (Some (length table.loads)) ∷ [];
  loads = table.loads ++ record { kind = kind; thread = thread; mid = length table.objects; text = text; stage = stage } ∷ [];
  cache = insert table.cache spec.name (slots.Module (module_of spec (length table.objects)));
}

-- the module is this far now
abbrev pub with_phase : Table → ℕ → Phase → Table
with_phase table mid phase = record table { objects = changed (λ object. record object { phase = phase }) table.objects mid }

-- one variable of the module is set
abbrev pub with_set : Table → ℕ → List ℕ → Value → Table
with_set table mid name value = record table { objects = changed (λ object. record object { vars = with_var object.vars name value }) table.objects mid }

-- one variable of the module is deleted, if it is there
abbrev pub with_deleted : Table → ℕ → List ℕ → Table
with_deleted table mid name = record table { objects = changed (λ object. record object { vars = without_var object.vars name }) table.objects mid }

-- this is kept of the module's search as a namespace, in place of what was
abbrev pub with_ns : Table → ℕ → NsState → Table
with_ns table mid state = record table { objects = changed (λ object. record object { ns = Some state }) table.objects mid }

-- the body of the load begins, and the load is this thread's, whoever added it
abbrev pub with_open : Table → ℕ → ℕ → Table
with_open table load thread = record table { loads = changed (λ load. record load { stage = stages.Open; thread = thread }) table.loads load }

-- the body of the load has ended
abbrev pub with_end : Table → ℕ → Table
with_end table load = record table { loads = changed (λ load. record load { stage = stages.Ended }) table.loads load }

-- the load has this text in place of the one that it had
abbrev pub with_text : Table → ℕ → List ℕ → Table
with_text table load text = record table { loads = changed (λ load. record load { text = text }) table.loads load }

-- the cache has this slot at the name, whatever it had there
abbrev pub with_entry : Table → List ℕ → Slot → Table
with_entry table name slot = record table { cache = insert table.cache name slot }

-- the cache has nothing at the name; a module that was there stays among the objects
abbrev pub without_entry : Table → List ℕ → Table
without_entry table name = record table { cache = remove table.cache name }

-- the value stands in the search path before the place
abbrev pub with_path_item : Table → ℕ → Value → Table
with_path_item table at value = record table { path = take at table.path ++ value ∷ drop at table.path }

-- where there is room for it
abbrev pub path_added : Table → Option ℤ → Value → Table
path_added table at value =
    if nat_lt (length table.path) 4096 then with_path_item table (place_from (length table.path) at) value else table

-- this is the reload that runs under the name, in place of any other
abbrev pub with_reload : Table → List ℕ → Reload → Table
with_reload table name reload = record table { reloading = insert table.reloading name reload }

-- no reload runs under the name
abbrev pub without_reload : Table → List ℕ → Table
without_reload table name = record table { reloading = remove table.reloading name }

-- the thread is one of those that have ended
abbrev pub with_ended : Table → ℕ → Table
with_ended table thread = record table { ended = insert table.ended thread tt }

-- t runs a reload
abbrev pub reloads : Table → ℕ → Bool
reloads table t = list_any (λ reload. reload.thread == t) (values table.reloading)

-- a namespace's search begins again; without a new state the old one stays
abbrev pub ns_or : Option NsState → Option NsState → Option NsState
ns_or old None = old
ns_or old (Some new) = Some new

-- a module that is loaded again has these variables, and keeps its spec, its first load and how far it is
abbrev pub restarted_with : List (List ℕ × Value) → Option NsState → Object → Object
restarted_with vars ns o = record o { vars = vars; ns = ns_or o.ns ns }

-- the start variables of the spec are set on what the module has
abbrev pub restarted_object : Spec → Object → Object
restarted_object spec o = restarted_with (restarted spec o.vars) (start_ns spec.kind) o

-- a reload that runs has this load
abbrev pub reload_opened : Table → List ℕ → ℕ → Option Reload → Table
reload_opened table n load None = table
reload_opened table n load (Some r) = with_reload table n (record r { load = Some load })

-- the same, of the reload that is found under the name
abbrev pub with_reload_load : Table → List ℕ → ℕ → Table
with_reload_load table n load = reload_opened table n load (get table.reloading n)

-- the next load, of kind Reload, is t's and open; the module starts again under the spec
abbrev pub with_reloaded : Table → ℕ → ℕ → Spec → List ℕ → Table
with_reloaded table t mid spec text = record (with_reload_load table spec.name (length table.loads)) {
  objects = changed (restarted_object spec) table.objects mid;
  loads = table.loads ++ record { kind = load_kinds.Reload; thread = t; mid = mid; text = text; stage = stages.Open } ∷ [];
}

-- a source and a package set `__file__`; else what was there stays
abbrev pub with_file : SpecKind → List (List ℕ × Value) → List (List ℕ × Value)
with_file kinds.Builtin vars = vars
with_file (kinds.Source file) vars = with_var vars (codes "__file__") (values_.Text file)
with_file (kinds.Package file path) vars = with_var vars (codes "__file__") (values_.Text file)
with_file (kinds.Namespace path) vars = vars

-- the package and the file of the spec, on what the script's module has
abbrev pub main_vars : Spec → List (List ℕ × Value) → List (List ℕ × Value)
main_vars spec vars = with_file spec.kind (with_var vars (codes "__package__") (values_.Text (package_of spec.name spec.kind)))

-- load t has the text, and object t the package and the file of the spec
abbrev pub with_main : Table → ℕ → Spec → List ℕ → Table
with_main table t spec text = record table {
  objects = changed (λ object. record object { vars = main_vars spec object.vars }) table.objects t;
  loads = changed (λ load. record load { text = text }) table.loads t;
}
