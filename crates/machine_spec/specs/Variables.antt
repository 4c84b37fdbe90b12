-- GetVar, SetVar, DelVar and Names: the variables of modules.
use Rattle.std.specs.Prelude.{ℕ, ◌==◌, ◌&&◌, not, Bool, true, false, List, [], Option, Some, None, map, slice_get, if◌then◌else◌}
use Rattle.py_value.specs.declared.value.Value.{Value}
use Rattle.machine_events.specs.declared.event.Reply.{Reply}
use Rattle.machine_events.specs.declared.event.Reply.TheVariants as replies
use Rattle.module_table.specs.Vars.{var_of}
use Rattle.module_table.specs.Tables.{with_set, with_deleted}
use Rattle.module_table.specs.declared.module.Object.{Object}
use Rattle.module_table.specs.declared.module.Load.{Load}
use Rattle.module_table.specs.declared.module.Phase.{Phase}
use Rattle.module_table.specs.declared.module.Phase.TheVariants as phases
use Rattle.machine_spec.specs.declared.state.State.{State}
use Rattle.machine_spec.specs.Parts.{is_initialising, is_built_in, is_lazy, is_open}

-- the load that the module was made with
abbrev pub load_of : State → Option ℕ → Option Load
load_of s None = None
load_of s (Some load) = slice_get s.table.loads load

-- an open lazy load of another thread
abbrev pub runs_elsewhere : ℕ → Option Load → Bool
runs_elsewhere t None = false
runs_elsewhere t (Some l) = is_lazy l.kind && is_open l.stage && not (l.thread == t)

-- nobody finds a ready module asleep, and all a lazy one; while a lazy body runs, its own thread alone finds it awake
abbrev pub asleep_in : State → ℕ → Option ℕ → Phase → Bool
asleep_in s t load phases.Ready = false
asleep_in s t load phases.Initialising = runs_elsewhere t (load_of s load)
asleep_in s t load phases.Lazy = true

-- a lazy module is asleep, and one that is initialising under an open lazy load of another thread
abbrev pub asleep : State → ℕ → Object → Bool
asleep s t o = asleep_in s t o.load o.phase

-- an event that asks raw finds every module awake
abbrev pub sleeping : State → ℕ → Bool → Object → Bool
sleeping s t raw o = if raw then false else asleep s t o

-- where a name is absent, the reply tells whether the module is initialising, for the text of an error depends on it
abbrev pub value_reply : Object → Option Value → Reply
value_reply o None = replies.Unset (is_initialising o.phase)
value_reply o (Some v) = replies.Value v

-- a module asleep tells nothing of its variables; what is no module has none
abbrev pub get_reply : State → ℕ → List ℕ → Bool → Option Object → Reply
get_reply s t x raw None = replies.Unset false
get_reply s t x raw (Some o) = if sleeping s t raw o then replies.Sleeping else value_reply o (var_of o.vars x)

-- a variable is read, and nothing changes
abbrev pub get_var : State → ℕ → ℕ → List ℕ → Bool → Reply × State
get_var s t mid x raw = (get_reply s t x raw (slice_get s.table.objects mid), s)

-- a built-in module is fixed, and one asleep is to be roused first; else the variable is set
abbrev pub set_on : State → ℕ → ℕ → List ℕ → Value → Bool → Option Object → Reply × State
set_on s t mid x v raw None = (replies.Done, s)
set_on s t mid x v raw (Some o) =
    if is_built_in o.spec.kind then (replies.Fixed, s)
    else (if sleeping s t raw o then (replies.Sleeping, s)
    else (replies.Done, record s { table = with_set s.table mid x v }))

-- the same, of the module with this number; where there is none, nothing changes
abbrev pub set_var : State → ℕ → ℕ → List ℕ → Value → Bool → Reply × State
set_var s t mid x v raw = set_on s t mid x v raw (slice_get s.table.objects mid)

-- only a variable that is there can be deleted; of another the reply tells what a read would be told
abbrev pub del_found : State → ℕ → List ℕ → Object → Option Value → Reply × State
del_found s mid x o None = (replies.Unset (is_initialising o.phase), s)
del_found s mid x o (Some v) = (replies.Done, record s { table = with_deleted s.table mid x })

-- a built-in module is fixed, and one asleep is to be roused first; else the variable is looked for
abbrev pub del_on : State → ℕ → ℕ → List ℕ → Bool → Option Object → Reply × State
del_on s t mid x raw None = (replies.Done, s)
del_on s t mid x raw (Some o) =
    if is_built_in o.spec.kind then (replies.Fixed, s)
    else (if sleeping s t raw o then (replies.Sleeping, s)
    else del_found s mid x o (var_of o.vars x))

-- the same, of the module with this number; where there is none, nothing changes
abbrev pub del_var : State → ℕ → ℕ → List ℕ → Bool → Reply × State
del_var s t mid x raw = del_on s t mid x raw (slice_get s.table.objects mid)

-- the names in their order, asleep or not; what is no module has none
abbrev pub names_reply : Option Object → Reply
names_reply None = replies.Names []
names_reply (Some o) = replies.Names (map (λ p. p.0) o.vars)

-- the names of a module's variables are read, and nothing changes
abbrev pub names : State → ℕ → Reply × State
names s mid = (names_reply (slice_get s.table.objects mid), s)
