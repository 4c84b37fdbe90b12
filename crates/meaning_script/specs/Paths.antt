-- The path of a module (Language Reference 5.4.5; `_NamespacePath` of `importlib._bootstrap_external`),
-- as a value: the list of its entries; where the module has no path, whether it is initialising.
use Rattle.std.specs.Prelude.{ℕ, zero, suc, List, [], map, codes, Option, Some, None, Bool, true, false, if◌then◌else◌}
use Rattle.py_value.specs.declared.value.ModRef.{ModRef}
use Rattle.py_value.specs.declared.value.NsState.{NsState}
use Rattle.py_value.specs.declared.value.Value.{Value, out-Value}
use Rattle.py_value.specs.declared.value.Value.TheVariants as values
use Rattle.py_value.specs.declared.value.Value.TheOpen.{Value-F}
use Rattle.spec_core.specs.Identifiers.{is_dotted}
use Rattle.spec_core.specs.Names.{parent_of}
use Rattle.machine_events.specs.declared.event.Event.TheVariants as e
use Rattle.machine_events.specs.declared.event.Reply.{Reply}
use Rattle.machine_events.specs.declared.event.Reply.TheVariants as r
use Rattle.machine_events.specs.declared.module.Slot.{Slot}
use Rattle.machine_events.specs.declared.module.Slot.TheVariants as slots
use Rattle.path_finder.specs.Steps.{searches}
use Rattle.meaning_script.specs.Searches.{searches_in}
use Rattle.namespace_path.specs.Recompute.{recomputed}
use Rattle.namespace_path.specs.Fresh.{is_fresh}
use Rattle.meaning_state.specs.declared.fault.Fault.TheVariants as fault
use Rattle.meaning_state.specs.declared.flow.Flow.TheVariants.{Went}
use Rattle.meaning_script.specs.Pieces.{Piece, pay, calls, most, on_value, fails, accessed}

-- the path that these entries are
abbrev pub has_path : List Value → Piece
has_path items s k = k (Went (values.List items)) s

-- the module has no path; in its place comes whether it is initialising, which the text of an error may tell
abbrev pub has_none : Bool → Piece
has_none init s k = k (Went (values.Bool init)) s

-- texts as values, as which they are the entries of a path
abbrev pub texts_of : List (List ℕ) → List Value
texts_of texts = map (λ (text : List ℕ). values.Text text) texts

-- Of a namespace, the path is its portions. Where they were computed from another
-- parent path, or before the finders' listings were dropped, they are searched again.

-- the path is the portions that are kept
abbrev pub has_portions : NsState → Piece
has_portions state = has_path (texts_of state.portions)

-- the namespace of a module: the module's number and name
pub record Space : Type 0 where
  pub mid : ℕ
  pub name : List ℕ

-- the state after the search is kept in the machine, and its portions are the path
abbrev pub keeps_state : Space → NsState → Piece
keeps_state m state s k = calls (e.NsSet m.mid state) (λ _. has_portions state s k)

-- a search of the name on the path above (`_NamespacePath._recalculate`): that path and this epoch are kept with the
-- portions that it finds, or with the old ones where it finds none
abbrev pub computes_again : Space → NsState → ℕ → List Value → Piece
computes_again m state epoch above s k =
    searches_in (searches m.name above []) (λ found. keeps_state m (recomputed state above epoch found) s k)

-- the kept portions where they were computed from this path in this epoch; else those after a new search
abbrev pub below : Space → NsState → ℕ → List Value → Piece
below m state epoch above = if is_fresh state above epoch then has_portions state else computes_again m state epoch above

-- by the value that the path of the module above is
abbrev pub below_at : Space → NsState → ℕ → Value-F Value → Piece
below_at m state epoch (Value-F.List above) = below m state epoch above
below_at m state epoch v = has_portions state

-- the same of a value; one that is no list stands for a module without a path, below which the portions stay
abbrev pub below_value : Space → NsState → ℕ → Value → Piece
below_value m state epoch v = below_at m state epoch (out-Value v)

-- a name without a dot stands below the search path
abbrev pub below_top : Space → NsState → ℕ → Reply → Piece
below_top m state epoch (r.Path items) = below m state epoch items
below_top m state epoch reply = fails fault.NotInProfile

-- any other stands below the module that the cache has for its parent's name
abbrev pub below_slot : (ModRef → Piece) → Space → NsState → ℕ → Slot → Piece
below_slot path m state epoch (slots.Module p) = λ s k. path p s (on_value k (λ v s. below_value m state epoch v s k))
below_slot path m state epoch slots.Halted = has_portions state
below_slot path m state epoch slots.Absent = has_portions state

-- the cache was asked for the parent's name, and replies its entry
abbrev pub below_entry : (ModRef → Piece) → Space → NsState → ℕ → Reply → Piece
below_entry path m state epoch (r.Slot slot) = below_slot path m state epoch slot
below_entry path m state epoch reply = fails fault.NotInProfile

-- above a name without a dot stands `sys.path`, else its parent's path (`_NamespacePath._find_parent_path_names`)
abbrev pub below_parent : (ModRef → Piece) → Space → NsState → ℕ → Option (List ℕ) → Piece
below_parent path m state epoch None = λ s k. calls e.PathGet (λ reply. below_top m state epoch reply s k)
below_parent path m state epoch (Some p) = λ s k. calls (e.TabGet p) (λ reply. below_entry path m state epoch reply s k)

-- the state of the namespace is read
abbrev pub has_state : (ModRef → Piece) → Space → Reply → Piece
has_state path m (r.Ns state epoch) =
    if is_dotted m.name then below_parent path m state epoch (parent_of m.name) else fails fault.NotInProfile
has_state path m reply = fails fault.NotInProfile

-- the path of a namespace, once its `__path__` is known to be that of one
abbrev pub namespace_path : (ModRef → Piece) → Space → Piece
namespace_path path m s k = calls (e.NsGet m.mid) (λ reply. has_state path m reply s k)

-- Of any other module, it is what stands in its `__path__`, which has to be a list or a tuple.

-- by what stands in `__path__`: the items of a list or a tuple; the path of a namespace, which is that of this module;
-- all else is outside the profile
abbrev pub path_at : (ModRef → Piece) → ModRef → Value-F Value → Piece
path_at path m (Value-F.List items) = has_path items
path_at path m (Value-F.Tuple items) = has_path items
path_at path m Value-F.NsPath = namespace_path path (record { mid = m.mid; name = m.name })
path_at path m v = fails fault.NotInProfile

-- a module whose `__path__` is unset is no package (5.4.5), and has no path
abbrev pub path_read : (ModRef → Piece) → ModRef → Reply → Piece
path_read path m (r.Value v) = path_at path m (out-Value v)
path_read path m (r.Unset init) = has_none init
path_read path m reply = fails fault.NotInProfile

-- a lazy module is loaded first, and its path is then read raw
abbrev pub path_came : (ModRef → Piece) → (ModRef → Piece) → Bool → ModRef → Reply → Piece
path_came roused path raw m reply = accessed raw roused m (e.GetVar m.mid (codes "__path__") true) (path_read path m) reply

-- at most so many modules one above the other, since the cache can
-- make a circle of them, and then a payment of more than is left
abbrev pub paths : (ModRef → Piece) → ℕ → ModRef → Piece
paths roused zero m = λ s k. pay most (fails fault.NotInProfile s k)
paths roused (suc turns) m = λ s k.
    calls (e.GetVar m.mid (codes "__path__") false) (λ reply. path_came roused (paths roused turns) false m reply s k)

-- the path of a namespace whose `__path__` was read, by the number and the name of its module
abbrev pub replaced : (ModRef → Piece) → ℕ → List ℕ → Piece
replaced roused mid n = namespace_path (paths roused most) (record { mid = mid; name = n })
