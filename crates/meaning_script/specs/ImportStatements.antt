-- The `import` statements (Language Reference 7.11): what they import, in which order, and what they bind.
use Rattle.std.specs.Prelude.{ℕ, zero, suc, ◌==◌, List, [], ◌∷◌, map, codes, Option, Some, None, Bool, true, false, not, ◌&&◌, if◌then◌else◌, Result, Ok, Err}
use Rattle.std.specs.List.{list_any, filter, join_with_byte}
use Rattle.std.specs.Str.{bytes_eq}
use Rattle.py_value.specs.declared.kind.Kind.{Kind}
use Rattle.py_value.specs.declared.kind.Kind.TheVariants as kinds
use Rattle.py_value.specs.declared.value.ModRef.{ModRef}
use Rattle.py_value.specs.declared.value.Raised.{Raised as Error}
use Rattle.py_value.specs.declared.value.Value.{Value, out-Value}
use Rattle.py_value.specs.declared.value.Value.TheVariants as values
use Rattle.py_value.specs.declared.value.Value.TheOpen.{Value-F}
use Rattle.spec_core.specs.Identifiers.{is_dotted}
use Rattle.spec_core.specs.Names.{joined}
use Rattle.spec_core.specs.Relative.{resolved}
use Rattle.spec_core.specs.declared.relative.RelativeError.{RelativeError}
use Rattle.spec_core.specs.declared.relative.RelativeError.TheVariants as relative
use Rattle.machine_events.specs.declared.event.Event.TheVariants as e
use Rattle.machine_events.specs.declared.event.Reply.{Reply}
use Rattle.machine_events.specs.declared.event.Reply.TheVariants as r
use Rattle.machine_events.specs.declared.module.Slot.{Slot}
use Rattle.machine_events.specs.declared.module.Slot.TheVariants as slots
use Rattle.machine_shown.specs.Shown.{is_namespace_path}
use Rattle.py_syntax.specs.declared.stmt.Alias.{Alias}
use Rattle.py_syntax.specs.declared.stmt.ImportedNames.{ImportedNames}
use Rattle.py_syntax.specs.declared.stmt.ImportedNames.TheVariants as names
use Rattle.meaning_state.specs.declared.fault.Fault.TheVariants as fault
use Rattle.meaning_state.specs.declared.flow.Leave.TheVariants.{Raised}
use Rattle.meaning_state.specs.declared.flow.Flow.{Flow}
use Rattle.meaning_state.specs.declared.flow.Flow.TheVariants.{Went, Left}
use Rattle.meaning_script.specs.Pieces.{Piece, calls, on_value, passes, fails, in_order, accessed}
use Rattle.meaning_script.specs.Names.{stores, member, replaces}
use Rattle.meaning_script.specs.Operators.{Around}

-- the name that parts with dots between spell
abbrev pub dotted_name : List (List ℕ) → List ℕ
dotted_name parts = join_with_byte 46 parts

-- the name behind `as` is bound, and where there is none the imported name itself
abbrev pub bound_as : Option (List ℕ) → List ℕ → List ℕ
bound_as None x = x
bound_as (Some y) x = y

-- goes on with a module; an import of a name is answered by nothing else
abbrev pub with_module_at : Value-F Value → (ModRef → Piece) → Piece
with_module_at (Value-F.Module m) go = go m
with_module_at v go = fails fault.NotInProfile

-- the same of a value itself; where it is no module ProfileError is raised
abbrev pub with_module : Value → (ModRef → Piece) → Piece
with_module v go = with_module_at (out-Value v) go

-- ---- a name of a module (`import_from`): its variable, else its submodule, which may stand in the cache alone

-- the path of a namespace is replaced by a list where it is bound; it is no module with further parts
abbrev pub namespace_taken : Around → Bool → ModRef → List ℕ → Piece
namespace_taken around true m x = replaces around.access m.mid m.name x
namespace_taken around false m x = fails fault.NotInProfile

-- the value of the variable is what is asked for, but for the path of a namespace, which no script sees as it is
abbrev pub taken_value : Around → Bool → ModRef → List ℕ → Value → Piece
taken_value around is_bound m x v = if is_namespace_path v then namespace_taken around is_bound m x else (λ s k. k (Went v) s)

-- of the cache a module, or `None` for the entry that halts imports; where there is no entry, ImportError
abbrev pub entry_taken : ModRef → List ℕ → Bool → Slot → Piece
entry_taken m x init (slots.Module found) = λ s k. k (Went (values.Module found)) s
entry_taken m x init slots.Halted = λ s k. k (Went values.Nothing) s
entry_taken m x init slots.Absent = fails (fault.CannotImport init m.name m.place x)

-- the reply to that look into the cache: what is next goes by the entry
abbrev pub submodule_entry : ModRef → List ℕ → Bool → Reply → Piece
submodule_entry m x init (r.Slot slot) = entry_taken m x init slot
submodule_entry m x init reply = fails fault.NotInProfile

-- the variable is not set: the cache is asked for the name of the module, a dot and the name
abbrev pub looks_up : ModRef → List ℕ → Bool → Piece
looks_up m x init =
    if is_dotted (joined m.name x)
    then (λ s k. calls (e.TabGet (joined m.name x)) (λ reply. submodule_entry m x init reply s k))
    else fails fault.NotInProfile

-- a variable that is set gives its value; one that is not set may be a submodule that the cache has
abbrev pub name_read : Around → Bool → ModRef → List ℕ → Reply → Piece
name_read around is_bound m x (r.Value v) = taken_value around is_bound m x v
name_read around is_bound m x (r.Unset init) = looks_up m x init
name_read around is_bound m x reply = fails fault.NotInProfile

-- the reply to the read of the variable: a lazy module that is asleep is loaded first, and then read raw
abbrev pub name_came : Around → Bool → Bool → ModRef → List ℕ → Reply → Piece
name_came around raw is_bound m x reply = accessed raw around.access.roused m (e.GetVar m.mid x true) (name_read around is_bound m x) reply

-- a name is read as an attribute is; `is_bound` tells whether it is bound next, or has further parts behind it
abbrev pub name_of : Around → Bool → ModRef → List ℕ → Piece
name_of around is_bound m x s k = calls (e.GetVar m.mid x false) (λ reply. name_came around false is_bound m x reply s k)

-- ---- `import a.b.c` binds `a`; `import a.b.c as x` goes from `a` to its parts, one behind the other

-- no part is left, so what was read is bound
abbrev pub is_last : List (List ℕ) → Bool
is_last [] = true
is_last (c ∷ cs) = false

-- each part is read in the module before it, and nothing is bound before the last (`compiler_import_as`)
abbrev pub follows_parts : Around → List (List ℕ) → List ℕ → Value → Piece
follows_parts around [] bound v = stores bound v
follows_parts around (c ∷ cs) bound v =
    with_module v (λ m s k. name_of around (is_last cs) m c s (on_value k (λ v s. follows_parts around cs bound v s k)))

-- without `as` the first part's module is bound to its own name; with `as` it goes on to the other parts
abbrev pub binds_import : Around → List ℕ → List (List ℕ) → Option (List ℕ) → Value → Piece
binds_import around x cs None v = stores x v
binds_import around x cs (Some bound) v = follows_parts around cs bound v

-- the first of several parts is asked for once more
abbrev pub imports_front : Around → List ℕ → List (List ℕ) → Option (List ℕ) → Piece
imports_front around x cs bound s k = around.imported x s (on_value k (λ v s. binds_import around x cs bound v s k))

-- the whole name is imported. With one part its module is bound; with several the first is imported once more for that
-- (`importlib._bootstrap.__import__` without a list)
abbrev pub imports_parts : Around → List (List ℕ) → Option (List ℕ) → Piece
imports_parts around [] bound = fails fault.NotInProfile
imports_parts around (x ∷ []) bound = λ s k. around.imported x s (on_value k (λ v s. stores (bound_as bound x) v s k))
imports_parts around (x ∷ y ∷ cs) bound = λ s k.
    around.imported (dotted_name (x ∷ y ∷ cs)) s (on_value k (λ _ s. imports_front around x (y ∷ cs) bound s k))

-- one name of the statement, with or without `as`
abbrev pub imports_one : Around → Alias → Piece
imports_one around a = imports_parts around a.parts a.bound

-- each name is bound before the next is imported
abbrev pub imports_all : Around → List Alias → Piece
imports_all around items = in_order (map (imports_one around) items)

-- ---- the submodules that a `from` import asks for (`_handle_fromlist`)

-- that there is no such submodule is no error here, unless its entry is `None`
abbrev pub unless_halted : Error → Slot → Piece
unless_halted error slots.Halted = λ s k. k (Left (Raised error)) s
unless_halted error slot = passes

-- the reply to the look that follows such an error: it counts where the entry is `None`
abbrev pub missed : Error → Reply → Piece
missed error (r.Slot slot) = unless_halted error slot
missed error reply = passes

-- whether the `name` of an error is this one; an error may have none
abbrev pub is_name : List ℕ → Option (List ℕ) → Bool
is_name n None = false
is_name n (Some other) = bytes_eq n other

-- whether an error says that just this module was not found: a ModuleNotFoundError with its name
abbrev pub is_missing : List ℕ → Kind → Option (List ℕ) → Bool
is_missing n kinds.ModuleNotFoundError name = is_name n name
is_missing n kind name = false

-- an error of the import of a submodule: that it was not found leads to a look into the cache, every other is raised
abbrev pub raised_for : List ℕ → Error → Piece
raised_for n error =
    if is_missing n error.kind error.name
    then (λ s k. calls (e.TabGet n) (λ reply. missed error reply s k))
    else (λ s k. k (Left (Raised error)) s)

-- how the import of a submodule ended: the module is not used here, it is read again when its name is bound
abbrev pub tried_submodule : List ℕ → Flow → Piece
tried_submodule n (Left (Raised error)) = raised_for n error
tried_submodule n (Left leave) = λ s k. k (Left leave) s
tried_submodule n (Went v) = passes

-- the import of a submodule by its whole name, which has to be a dotted name
abbrev pub tries_submodule : Around → List ℕ → Piece
tries_submodule around n =
    if is_dotted n then (λ s k. around.imported n s (λ flow s. tried_submodule n flow s k)) else fails fault.NotInProfile

-- a name that is a variable of the module is not imported; any other is taken for a submodule
abbrev pub submodule_read : Around → ModRef → List ℕ → Reply → Piece
submodule_read around m x (r.Value v) = passes
submodule_read around m x (r.Unset init) = tries_submodule around (joined m.name x)
submodule_read around m x reply = fails fault.NotInProfile

-- the reply to the read of the variable: a lazy module that is asleep is loaded first, and then read raw
abbrev pub submodule_came : Around → Bool → ModRef → List ℕ → Reply → Piece
submodule_came around raw m x reply = accessed raw around.access.roused m (e.GetVar m.mid x true) (submodule_read around m x) reply

-- whether the module has the name is read as by `hasattr`, before its submodule is imported
abbrev pub submodule : Around → ModRef → List ℕ → Piece
submodule around m x s k = calls (e.GetVar m.mid x false) (λ reply. submodule_came around false m x reply s k)

-- the names of the list one behind the other; an error ends it
abbrev pub submodules : Around → ModRef → List (List ℕ) → Piece
submodules around m xs = in_order (map (submodule around m) xs)

-- only a package has submodules
abbrev pub if_package : Around → ModRef → List (List ℕ) → Reply → Piece
if_package around m xs (r.Value v) = submodules around m xs
if_package around m xs (r.Unset init) = passes
if_package around m xs reply = fails fault.NotInProfile

-- the reply to the read of `__path__`: a lazy module that is asleep is loaded first, and then read raw
abbrev pub package_came : Around → Bool → ModRef → List (List ℕ) → Reply → Piece
package_came around raw m xs reply = accessed raw around.access.roused m (e.GetVar m.mid (codes "__path__") true) (if_package around m xs) reply

-- submodules are asked for where the module has a `__path__` (`importlib._bootstrap.__import__`)
abbrev pub asks_submodules : Around → ModRef → List (List ℕ) → Piece
asks_submodules around m xs s k = calls (e.GetVar m.mid (codes "__path__") false) (λ reply. package_came around false m xs reply s k)

-- ---- `from n import x, y as z`

-- an item names one part
abbrev pub item_name : List (List ℕ) → List ℕ
item_name parts = dotted_name parts

-- a name is read in the module, and bound to itself or to the name behind `as` (7.11)
abbrev pub binds_item : Around → ModRef → Alias → Piece
binds_item around m a s k =
    name_of around true m (item_name a.parts) s (on_value k (λ v s. stores (bound_as a.bound (item_name a.parts)) v s k))

-- each name is bound before the next is read
abbrev pub binds_items : Around → ModRef → List Alias → Piece
binds_items around m items = in_order (map (binds_item around m) items)

-- the names that are asked for, whatever they are bound to
abbrev pub item_names : List Alias → List (List ℕ)
item_names items = map (λ (a : Alias). item_name a.parts) items

-- all submodules that are asked for are imported before any name is bound
abbrev pub from_list : Around → List Alias → ModRef → Piece
from_list around items m s k = asks_submodules around m (item_names items) s (on_value k (λ _ s. binds_items around m items s k))

-- ---- `from n import *`: the names of `__all__`, else those of the module that do not begin with an underscore

-- a name of `*` is read as an attribute and bound to itself; one that is missing raises AttributeError
abbrev pub binds_star : Around → ModRef → List ℕ → Piece
binds_star around m x s k = member around.access (values.Module m) x s (on_value k (λ v s. stores x v s k))

-- each name is bound before the next is read (`import_all_from`)
abbrev pub binds_stars : Around → ModRef → List (List ℕ) → Piece
binds_stars around m xs = in_order (map (binds_star around m) xs)

-- texts alone
abbrev pub and_text : Value-F Value → Option (List (List ℕ)) → Option (List (List ℕ))
and_text (Value-F.Text text) (Some texts) = Some (text ∷ texts)
and_text v texts = None

-- the texts that these values are; nothing where one of them is no text
abbrev pub texts_in : List Value → Option (List (List ℕ))
texts_in [] = Some []
texts_in (v ∷ vs) = and_text (out-Value v) (texts_in vs)

-- `__all__` "must be a sequence of strings" (7.11): here a list or a tuple, with texts alone
abbrev pub all_names : Value-F Value → Option (List (List ℕ))
all_names (Value-F.List items) = texts_in items
all_names (Value-F.Tuple items) = texts_in items
all_names v = None

-- a dotted name without a dot; a text of `__all__` that is none is never imported as a submodule
abbrev pub is_one_part : List ℕ → Bool
is_one_part x = is_dotted x && not (list_any (λ b. b == 46) x)

-- with `__all__`: its names are asked for as submodules (`_handle_fromlist`, recursive), then all of them are bound;
-- an `__all__` of another form raises ProfileError
abbrev pub stars_of : Around → ModRef → Option (List (List ℕ)) → Piece
stars_of around m None = fails fault.NotInProfile
stars_of around m (Some xs) = λ s k.
    asks_submodules around m (filter is_one_part xs) s (on_value k (λ _ s. binds_stars around m xs s k))

-- without `__all__` a name is public where it does "not begin with an underscore character" (7.11)
abbrev pub is_public : List ℕ → Bool
is_public [] = true
is_public (b ∷ bs) = not (b == 95)

-- the public names of the variables, in the order in which they were first set; no submodule is asked for
abbrev pub public_names : ModRef → Around → Reply → Piece
public_names m around (r.Names xs) = binds_stars around m (filter is_public xs)
public_names m around reply = fails fault.NotInProfile

-- `__all__` decides where it is set; else the names of the variables are read
abbrev pub all_read : Around → ModRef → Reply → Piece
all_read around m (r.Value v) = stars_of around m (all_names (out-Value v))
all_read around m (r.Unset init) = λ s k. calls (e.Names m.mid) (λ reply. public_names m around reply s k)
all_read around m reply = fails fault.NotInProfile

-- the reply to the read of `__all__`: a lazy module that is asleep is loaded first, and then read raw
abbrev pub all_came : Around → Bool → ModRef → Reply → Piece
all_came around raw m reply = accessed raw around.access.roused m (e.GetVar m.mid (codes "__all__") true) (all_read around m) reply

-- first `__all__` of the module is read, as an attribute is
abbrev pub from_star : Around → ModRef → Piece
from_star around m s k = calls (e.GetVar m.mid (codes "__all__") false) (λ reply. all_came around false m reply s k)

-- ---- relative names (5.7): `__package__` of the module alone decides

-- a `__package__` that is no text is as none
abbrev pub package_at : Value-F Value → Option (List ℕ)
package_at (Value-F.Text text) = Some text
package_at v = None

-- the same of the reply to its read: where it is not set there is none
abbrev pub package_in : Reply → Option (List ℕ)
package_in (r.Value v) = package_at (out-Value v)
package_in reply = None

-- what stands behind the dots; nothing does in `from . import x`
abbrev pub optional_name : List (List ℕ) → Option (List ℕ)
optional_name [] = None
optional_name (part ∷ parts) = Some (dotted_name (part ∷ parts))

-- the module of an absolute name is imported, and it goes on with this module
abbrev pub from_name : Around → (ModRef → Piece) → List ℕ → Piece
from_name around go n s k = around.imported n s (on_value k (λ v s. with_module v go s k))

-- the absolute name, or ImportError: without a package (`_sanity_check`), or beyond its top (`_resolve_name`)
abbrev pub from_resolved : Around → (ModRef → Piece) → Result (List ℕ) RelativeError → Piece
from_resolved around go (Ok n) = from_name around go n
from_resolved around go (Err relative.NoParent) = fails fault.NoParentPackage
from_resolved around go (Err relative.BeyondTop) = fails fault.BeyondTop
from_resolved around go (Err relative.NoMemory) = fails fault.NotInProfile

-- the dots count from `__package__` of the module that the statement stands in, which is read raw
abbrev pub from_relative : Around → (ModRef → Piece) → ℕ → List (List ℕ) → Piece
from_relative around go dots parts s k =
    calls (e.GetVar s.scope.mid (codes "__package__") true)
    (λ reply. from_resolved around go (resolved (package_in reply) dots (optional_name parts)) s k)

-- a name without a dot before it is absolute
abbrev pub from_dots : Around → (ModRef → Piece) → ℕ → List (List ℕ) → Piece
from_dots around go zero parts = from_name around go (dotted_name parts)
from_dots around go (suc dots) parts = from_relative around go (suc dots) parts

-- behind `import` stand `*`, or names
abbrev pub imported_names : Around → ImportedNames → ModRef → Piece
imported_names around names.All = from_star around
imported_names around (names.Listed items) = from_list around items

-- the module is imported before its names are asked for (7.11)
abbrev pub from_import : Around → ℕ → List (List ℕ) → ImportedNames → Piece
from_import around dots parts imported = from_dots around (imported_names around imported) dots parts
