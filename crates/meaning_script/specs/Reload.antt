-- A module is loaded again (`importlib.reload`; `_bootstrap._exec`): its path, a search, its lock,
-- and then its body in the same namespace. However it ends, the reload is ended in the machine.
use Rattle.std.specs.Prelude.{ℕ, zero, suc, List, [], codes, Option, Some, None, Bool, true, false, if◌then◌else◌}
use Rattle.base_types.specs.Path.{Path}
use Rattle.py_value.specs.declared.value.ModRef.{ModRef}
use Rattle.py_value.specs.declared.value.Value.{Value, out-Value}
use Rattle.py_value.specs.declared.value.Value.TheVariants as values
use Rattle.py_value.specs.declared.value.Value.TheOpen.{Value-F}
use Rattle.spec_core.specs.Identifiers.{is_dotted}
use Rattle.spec_core.specs.Names.{parent_of}
use Rattle.spec_core.specs.declared.spec.Spec.{Spec}
use Rattle.spec_core.specs.declared.spec.SpecKind.{SpecKind}
use Rattle.spec_core.specs.declared.spec.SpecKind.TheVariants as kinds
use Rattle.machine_events.specs.declared.event.Event.TheVariants as e
use Rattle.machine_events.specs.declared.event.Reply.{Reply}
use Rattle.machine_events.specs.declared.event.Reply.TheVariants as r
use Rattle.machine_events.specs.declared.module.Slot.{Slot}
use Rattle.machine_events.specs.declared.module.Slot.TheVariants as slots
use Rattle.path_finder.specs.Entries as entries
use Rattle.path_finder.specs.Steps as search
use Rattle.path_finder.specs.declared.words.Found.{Found}
use Rattle.path_finder.specs.declared.words.Found.TheVariants as found
use Rattle.meaning_script.specs.Searches.{searches_in}
use Rattle.meaning_runs.specs.Runs.{Looks, Makes, StampOf}
use Rattle.meaning_state.specs.declared.fault.Fault.{Fault}
use Rattle.meaning_state.specs.declared.fault.Fault.TheVariants as fault
use Rattle.meaning_state.specs.declared.flow.Flow.{Flow}
use Rattle.meaning_state.specs.declared.flow.Flow.TheVariants.{Went, Left}
use Rattle.meaning_script.specs.Pieces.{Piece, pay, calls, fails, most, done, accessed}
use Rattle.meaning_script.specs.Imports.{Inside, path_of, roused, answers, opens}

-- ---- its end

-- the reload is ended, and the error is raised
abbrev pub stops : ModRef → Fault → Piece
stops m f s k = calls (e.ReloadEnd m.mid None) (λ _. fails f s k)

-- the reload is ended, and the leave goes on
abbrev pub stops_and : ModRef → Flow → Piece
stops_and m flow s k = calls (e.ReloadEnd m.mid None) (λ _. k flow s)

-- the answer is the entry that its name has then
abbrev pub reloaded_entry : Slot → Piece
reloaded_entry (slots.Module found) = answers found
reloaded_entry slots.Halted = λ s k. k (Went values.Nothing) s
reloaded_entry slots.Absent = fails fault.NotInProfile

-- what the body raised is raised, but that the entry is lost counts before it
abbrev pub kept : Slot → Flow → Piece
kept slot (Went v) = reloaded_entry slot
kept slot (Left leave) = λ s k. k (Left leave) s

-- the entry of the name was there at the end, or was gone: then KeyError,
-- as the `finally` of `_exec` raises it, whatever the body raised
abbrev pub ended : ModRef → Flow → Reply → Piece
ended m flow (r.Kept slot) = kept slot flow
ended m flow r.Lost = fails (fault.Lost m.name)
ended m flow reply = fails fault.NotInProfile

-- the body has ended, by whichever way: its load and the reload are ended together
abbrev pub ends : ModRef → ℕ → Flow → Piece
ends m load flow s k = calls (e.ReloadEnd m.mid (Some load)) (λ reply. ended m flow reply s k)

-- ---- its lock, and its body

-- a reload of a namespace has no body: the path that it was found on is kept
abbrev pub keeps_space : ModRef → ℕ → List Value → List (List ℕ) → ℕ → ℕ → Piece
keeps_space m epoch path portions load mid s k =
    calls (e.NsSet mid (record { parent_path = path; epoch = epoch; portions = portions })) (λ _. ends m load done s k)

-- what a reload found: the source of a file, or the portions of a namespace
pub data Finding : Type 0 where
  HasText : (spec : Spec) (text : List ℕ) → Finding
  HasPortions : (path : List Value) (portions : List (List ℕ)) → Finding

-- the spec that the lock is taken with: the one that was found; for portions that of a namespace with the module's name
abbrev pub spec_found : ModRef → Finding → Spec
spec_found m (HasText spec text) = spec
spec_found m (HasPortions path portions) = record { name = m.name; kind = kinds.Namespace portions }

-- the text that the new load has; for a namespace it is empty, since nothing of it runs
abbrev pub text_found : Finding → List ℕ
text_found (HasText spec text) = text
text_found (HasPortions path portions) = []

-- with the lock and a new load: the source runs in the module that was there; of a namespace its portions are kept
abbrev pub loads_again : Inside → ModRef → ℕ → Finding → ℕ → ℕ → Piece
loads_again inside m epoch (HasText spec text) load mid = λ s k. inside.body m.mid load m.name text s (λ flow s. ends m load flow s k)
loads_again inside m epoch (HasPortions path portions) load mid = keeps_space m epoch path portions load mid

-- the lock was asked for: it is taken, with a load; or it is waited for, and asked for again; or waiting would close a
-- circle; or the module is not the entry of its name any more, which `_exec` tests with the lock
abbrev pub took : Inside → Piece → ModRef → ℕ → Finding → Reply → Piece
took inside again m epoch finding (r.Load load mid) = loads_again inside m epoch finding load mid
took inside again m epoch finding (r.Wait l) = λ s k. Makes e.Wake (λ _. again s k)
took inside again m epoch finding r.Deadlock = stops m (fault.Deadlock m.name)
took inside again m epoch finding r.NotThere = stops m (fault.NoLongerCached m.name)
took inside again m epoch finding reply = stops m fault.NotInProfile

-- at most so many turns, and then a payment of more than is left
abbrev pub retakes : Inside → ℕ → ModRef → ℕ → Finding → Piece
retakes inside zero m epoch finding = λ s k. pay most (stops m fault.NotInProfile s k)
retakes inside (suc turns) m epoch finding = λ s k.
    calls (e.ReloadTake m.mid (spec_found m finding) (text_found finding))
    (λ reply. took inside (retakes inside turns m epoch finding) m epoch finding reply s k)

-- ---- its search

-- the text of the file; where there is none, it was too long for a source
abbrev pub has_source : Inside → ModRef → ℕ → Spec → Option (List ℕ) → Piece
has_source inside m epoch spec None = stops m fault.TooLong
has_source inside m epoch spec (Some text) = retakes inside most m epoch (HasText spec text)

-- the file is read; that none stands at the path that it spells, or that it spells none, is as if nothing was found
abbrev pub reads_source : Inside → ModRef → ℕ → Spec → Option Path → Piece
reads_source inside m epoch spec None = stops m (fault.NoSpec m.name)
reads_source inside m epoch spec (Some path) = λ s k.
    Looks (StampOf path) (opens path (stops m (fault.NoSpec m.name) s k) (λ text. has_source inside m epoch spec text s k))

-- a module and a package have a file, and a search finds no other kinds of specs
abbrev pub locates : Inside → ModRef → ℕ → Spec → SpecKind → Piece
locates inside m epoch spec (kinds.Source file) = reads_source inside m epoch spec (entries.path_of file)
locates inside m epoch spec (kinds.Package file path) = reads_source inside m epoch spec (entries.path_of file)
locates inside m epoch spec kind = stops m fault.NotInProfile

-- nothing was found, which is ModuleNotFoundError; or a file; or portions, for which no file is read
abbrev pub discovers : Inside → ModRef → ℕ → List Value → Option Found → Piece
discovers inside m epoch path None = stops m (fault.NoSpec m.name)
discovers inside m epoch path (Some (found.Spec spec)) = locates inside m epoch spec spec.kind
discovers inside m epoch path (Some (found.Portions portions)) = retakes inside most m epoch (HasPortions path portions)

-- the search for the name in these entries (`_bootstrap._find_spec`)
abbrev pub finds : Inside → ModRef → ℕ → List Value → Piece
finds inside m epoch path s k =
    searches_in (search.searches m.name path []) (λ answer. discovers inside m epoch path answer s k)

-- ---- its path: the search path, or that of the module that the cache has for its parent's name

-- the search path was asked for, and its entries are searched
abbrev pub on_search_path : Inside → ModRef → ℕ → Reply → Piece
on_search_path inside m epoch (r.Path items) = finds inside m epoch items
on_search_path inside m epoch reply = stops m fault.NotInProfile

-- a parent without a path lacks the attribute; whether it is initialising stands in place of its path
abbrev pub on_path : Inside → ModRef → ℕ → ModRef → Value-F Value → Piece
on_path inside m epoch parent (Value-F.List items) = finds inside m epoch items
on_path inside m epoch parent (Value-F.Bool init) = stops m (fault.NoAttribute init parent.name (codes "__path__"))
on_path inside m epoch parent v = stops m fault.NotInProfile

-- the parent's path, or what came in its place; an error on the way to it ends the reload and goes on
abbrev pub on_parent_path : Inside → ModRef → ℕ → ModRef → Flow → Piece
on_parent_path inside m epoch parent (Went v) = on_path inside m epoch parent (out-Value v)
on_parent_path inside m epoch parent (Left leave) = stops_and m (Left leave)

-- without an entry of the parent there is ImportError, an entry `None` lacks `__path__`, and a module has its path read
abbrev pub on_parent : Inside → ModRef → ℕ → List ℕ → Slot → Piece
on_parent inside m epoch p slots.Absent = stops m (fault.ParentNotCached p)
on_parent inside m epoch p slots.Halted = stops m fault.NothingHasNoPath
on_parent inside m epoch p (slots.Module parent) = λ s k. path_of inside parent s (λ flow s. on_parent_path inside m epoch parent flow s k)

-- the cache was asked for the parent's name, and replies its entry
abbrev pub on_entry : Inside → ModRef → ℕ → List ℕ → Reply → Piece
on_entry inside m epoch p (r.Slot slot) = on_parent inside m epoch p slot
on_entry inside m epoch p reply = stops m fault.NotInProfile

-- a name without a dot is searched on `sys.path`, any other on its parent's path (`importlib.reload`)
abbrev pub reads_path : Inside → ModRef → ℕ → Option (List ℕ) → Piece
reads_path inside m epoch None = λ s k. calls e.PathGet (λ reply. on_search_path inside m epoch reply s k)
reads_path inside m epoch (Some p) = λ s k. calls (e.TabGet p) (λ reply. on_entry inside m epoch p reply s k)

-- ---- the whole

-- the reload begins; or one of that name runs already, whose module is the answer (`_RELOADING`); or the module is not
-- the entry of its name, which is ImportError; a built-in module cannot be reloaded
abbrev pub begun : Inside → ModRef → Reply → Piece
begun inside m (r.Begun epoch) = reads_path inside m epoch (parent_of m.name)
begun inside m (r.Busy other) = answers other
begun inside m r.NotThere = fails (fault.NotCached m.name)
begun inside m reply = fails fault.NotInProfile

-- a lazy module is loaded first
abbrev pub begin_came : Inside → Bool → ModRef → Reply → Piece
begin_came inside raw m reply = accessed raw (roused inside) m (e.ReloadBegin m.mid true) (begun inside m) reply

-- the first event is soft: a reload is a use of a lazy module
abbrev pub begins : Inside → ModRef → Piece
begins inside m s k = calls (e.ReloadBegin m.mid false) (λ reply. begin_came inside false m reply s k)

-- the whole, of a module; its name is searched for, so it has to be a dotted one
abbrev pub reloads : Inside → ModRef → Piece
reloads inside m = if is_dotted m.name then begins inside m else fails fault.NotInProfile
