-- Names and attributes (Language Reference 4.2.2, 6.3.1, 7.2 and 7.5).
use Rattle.std.specs.Prelude.{ℕ, List, [], ◌∷◌, codes, Option, Some, None, Bool, true, false, ◌&&◌, if◌then◌else◌}
use Rattle.std.specs.Str.{bytes_eq}
use Rattle.std.specs.FinMap as maps
use Rattle.py_value.specs.Names.{kind_name, native_name}
use Rattle.py_value.specs.declared.kind.Kind.{Kind}
use Rattle.py_value.specs.declared.kind.Kind.TheVariants as kinds
use Rattle.py_value.specs.declared.kind.Native.{Native}
use Rattle.py_value.specs.declared.kind.Native.TheVariants as natives
use Rattle.py_value.specs.declared.value.ModRef.{ModRef}
use Rattle.py_value.specs.declared.value.Raised.{Raised as Error}
use Rattle.py_value.specs.declared.value.Value.{Value, out-Value}
use Rattle.py_value.specs.declared.value.Value.TheVariants as values
use Rattle.py_value.specs.declared.value.Value.TheOpen.{Value-F}
use Rattle.machine_events.specs.declared.event.Event.TheVariants as e
use Rattle.machine_events.specs.declared.event.Reply.{Reply}
use Rattle.machine_events.specs.declared.event.Reply.TheVariants as r
use Rattle.machine_shown.specs.Shown.{is_namespace_path}
use Rattle.source_functions.specs.Binding.{is_local}
use Rattle.meaning_state.specs.declared.fault.Fault.TheVariants as fault
use Rattle.meaning_state.specs.declared.flow.Flow.TheVariants.{Went}
use Rattle.meaning_state.specs.declared.thread.FunctionScope.{FunctionScope}
use Rattle.meaning_state.specs.declared.thread.Source.{Source}
use Rattle.meaning_state.specs.declared.thread.State.{State}
use Rattle.meaning_script.specs.Pieces.{Piece, calls, fails, passes, done, accessed}

-- Built-in names.

-- the functions that are built-in names; the other ones are attributes of `importlib` and `pyimport`
abbrev pub built_in_natives : List Native
built_in_natives = natives.Print ∷ natives.Str ∷ natives.Repr ∷ natives.Len ∷ natives.HasAttr ∷ natives.GetAttr ∷ []

-- scripts know the names of all kinds but ProfileError and _DeadlockError
abbrev pub built_in_kinds : List Kind
built_in_kinds =
    kinds.BaseException ∷ kinds.Exception ∷ kinds.ArithmeticError ∷ kinds.ZeroDivisionError ∷ kinds.AttributeError ∷ kinds.ImportError
    ∷ kinds.ModuleNotFoundError ∷ kinds.LookupError ∷ kinds.IndexError ∷ kinds.KeyError ∷ kinds.NameError ∷ kinds.UnboundLocalError
    ∷ kinds.RuntimeError ∷ kinds.RecursionError ∷ kinds.SyntaxError ∷ kinds.TypeError ∷ kinds.ValueError ∷ []

-- the first of these with the name
abbrev pub native_named : List ℕ → List Native → Option Native
native_named x [] = None
native_named x (n ∷ ns) = if bytes_eq (native_name n) x then Some n else native_named x ns

-- the same among kinds
abbrev pub kind_named : List ℕ → List Kind → Option Kind
kind_named x [] = None
kind_named x (k ∷ ks) = if bytes_eq (kind_name k) x then Some k else kind_named x ks

-- the kind that was found, as a value
abbrev pub kind_value : Option Kind → Option Value
kind_value None = None
kind_value (Some k) = Some (values.Kind k)

-- the function that was found, else the kind
abbrev pub built_in_value : Option Native → Option Kind → Option Value
built_in_value (Some n) kind = Some (values.Native n)
built_in_value None kind = kind_value kind

-- the value of a built-in name, a function or a kind of errors; None where the name is not built-in
abbrev pub built_in : List ℕ → Option Value
built_in x = built_in_value (native_named x built_in_natives) (kind_named x built_in_kinds)

-- Local variables.

-- in a call those names are local that its function binds and no `global` line of it has (4.2.1); else none is
abbrev pub is_local_in : Option FunctionScope → List ℕ → Bool
is_local_in None x = false
is_local_in (Some f) x = is_local f.function x

-- the name is local in the call that the state stands in, if it stands in one
abbrev pub is_local_name : State → List ℕ → Bool
is_local_name s x = is_local_in s.scope.function x

-- the variable's value in a call; None where it is not set, and where there is no call
abbrev pub value_in : Option FunctionScope → List ℕ → Option Value
value_in None x = None
value_in (Some f) x = maps.get f.locals x

-- a local variable's value, None where it is not set
abbrev pub local_value : State → List ℕ → Option Value
local_value s x = value_in s.scope.function x

-- a call where the variable has this value, and its others as before
abbrev pub set_in : Option FunctionScope → List ℕ → Value → Option FunctionScope
set_in None x v = None
set_in (Some f) x v = Some (record { function = f.function; locals = maps.insert f.locals x v })

-- a call where the variable has no value, and its others as before
abbrev pub unset_in : Option FunctionScope → List ℕ → Option FunctionScope
unset_in None x = None
unset_in (Some f) x = Some (record { function = f.function; locals = maps.remove f.locals x })

-- the state with this in place of its call; its module, its load and all that it keeps stay
abbrev pub with_function : State → Option FunctionScope → State
with_function s function = record {
  scope = record { mid = s.scope.mid; load = s.scope.load; function = function };
  kept = s.kept;
  handling = s.handling;
}

-- the state where the local variable has this value
abbrev pub with_local : State → List ℕ → Value → State
with_local s x v = with_function s (set_in s.scope.function x v)

-- the state where the local variable has none
abbrev pub without_local : State → List ℕ → State
without_local s x = with_function s (unset_in s.scope.function x)

-- What accesses of modules go into.
pub record Access : Type 0 where
  -- a lazy module is loaded at its first use
  pub roused : ModRef → Piece
  -- a list comes in place of the path of a namespace, that of the module with this number and name
  pub replaced : ℕ → List ℕ → Piece

-- only a module's `__path__` can be one
abbrev pub replaces : Access → ℕ → List ℕ → List ℕ → Piece
replaces access mid n x = if bytes_eq x (codes "__path__") then access.replaced mid n else fails fault.NotInProfile

-- Reads of names.

-- the module that the state stands in has the name that its source was loaded under
abbrev pub replaces_own : Access → Option Source → List ℕ → Piece
replaces_own access None x = fails fault.NotInProfile
replaces_own access (Some source) x = λ s k. replaces access s.scope.mid source.name x s k

-- a variable's value
abbrev pub variable : Access → List ℕ → Value → Piece
variable access x v s k = if is_namespace_path v then replaces_own access (maps.get s.kept s.scope.load) x s k else k (Went v) s

-- a name that is not built-in either is not found at all: NameError (4.2.2)
abbrev pub read_built_in : Option Value → List ℕ → Piece
read_built_in None x = fails (fault.NotDefined x)
read_built_in (Some v) x = λ s k. k (Went v) s

-- what the module has for the name; where it is unset there, the built-in one is meant
abbrev pub read_global : Access → Reply → List ℕ → Piece
read_global access (r.Value v) x = variable access x v
read_global access (r.Unset init) x = read_built_in (built_in x) x
read_global access reply x = fails fault.NotInProfile

-- the variable of the own module is read raw: its own code never finds the module asleep
abbrev pub reads_global : Access → List ℕ → Piece
reads_global access x s k = calls (e.GetVar s.scope.mid x true) (λ reply. read_global access reply x s k)

-- a local variable that is not set is UnboundLocalError, also where the module has the name (4.2.2)
abbrev pub reads_local : Option Value → List ℕ → Piece
reads_local None x = fails (fault.Unbound x)
reads_local (Some v) x = λ s k. k (Went v) s

-- a name: a local variable, else a variable of the module, else a built-in one
abbrev pub reads : Access → List ℕ → Piece
reads access x s k = if is_local_name s x then reads_local (local_value s x) x s k else reads_global access x s k

-- Writes and deletions of names.

-- the variable is set; those of a built-in module cannot be
abbrev pub stored : Reply → Piece
stored r.Done = passes
stored reply = fails fault.NotInProfile

-- the variable of the own module is set, raw
abbrev pub stores_global : List ℕ → Value → Piece
stores_global x v s k = calls (e.SetVar true s.scope.mid x v) (λ reply. stored reply s k)

-- a name is bound
abbrev pub stores : List ℕ → Value → Piece
stores x v s k = if is_local_name s x then k done (with_local s x v) else stores_global x v s k

-- the variable is gone; where it was unset already, NameError (7.5)
abbrev pub deleted : Reply → List ℕ → Piece
deleted r.Done x = passes
deleted (r.Unset init) x = fails (fault.NotDefined x)
deleted reply x = fails fault.NotInProfile

-- the variable of the own module is deleted, raw
abbrev pub deletes_global : List ℕ → Piece
deletes_global x s k = calls (e.DelVar s.scope.mid x true) (λ reply. deleted reply x s k)

-- the local variable is unset; where it was already, UnboundLocalError (7.5)
abbrev pub deletes_local : Option Value → List ℕ → Piece
deletes_local None x = fails (fault.Unbound x)
deletes_local (Some v) x = λ s k. k done (without_local s x)

-- a name is deleted: a local variable, else a variable of the module; a built-in one cannot be
abbrev pub deletes : List ℕ → Piece
deletes x s k = if is_local_name s x then deletes_local (local_value s x) x s k else deletes_global x s k

-- Attributes.

-- ImportError, and the one kind that is below it
abbrev pub is_import_kind : Kind → Bool
is_import_kind kinds.ImportError = true
is_import_kind kinds.ModuleNotFoundError = true
is_import_kind kind = false

-- the `name` of an error as a value: `None` where the error has none
abbrev pub name_value : Option (List ℕ) → Value
name_value None = values.Nothing
name_value (Some n) = values.Text n

-- of an error of an import its `name` can be read
abbrev pub error_member : Error → List ℕ → Piece
error_member error x =
    if bytes_eq x (codes "name") && is_import_kind error.kind
    then (λ s k. k (Went (name_value error.name)) s)
    else fails fault.NotInProfile

-- the value that was read; where it is the path of a namespace, a list comes in its place
abbrev pub member_value : Access → ModRef → List ℕ → Value → Piece
member_value access m x v = if is_namespace_path v then replaces access m.mid m.name x else (λ s k. k (Went v) s)

-- the value; an unset variable is AttributeError, whose text says whether the module is initialising
abbrev pub member_read : Access → ModRef → List ℕ → Reply → Piece
member_read access m x (r.Value v) = member_value access m x v
member_read access m x (r.Unset init) = fails (fault.NoAttribute init m.name x)
member_read access m x reply = fails fault.NotInProfile

-- the reply to a read that was made raw or not
abbrev pub member_came : Access → Bool → ModRef → List ℕ → Reply → Piece
member_came access raw m x reply = accessed raw access.roused m (e.GetVar m.mid x true) (member_read access m x) reply

-- attributes are read of modules, softly, so that a lazy one is loaded first, and of errors; of nothing else
abbrev pub member_at : Access → Value-F Value → List ℕ → Piece
member_at access (Value-F.Module m) x = λ s k. calls (e.GetVar m.mid x false) (λ reply. member_came access false m x reply s k)
member_at access (Value-F.Error error) x = error_member error x
member_at access v x = fails fault.NotInProfile

-- an attribute is read
abbrev pub member : Access → Value → List ℕ → Piece
member access v x = member_at access (out-Value v) x

-- the reply to a write that was made raw or not
abbrev pub member_stored : Access → Bool → ModRef → List ℕ → Value → Reply → Piece
member_stored access raw m x v reply = accessed raw access.roused m (e.SetVar true m.mid x v) stored reply

-- only on a module can an attribute be set; the write is soft, so a lazy one is loaded first
abbrev pub sets_member_at : Access → Value-F Value → List ℕ → Value → Piece
sets_member_at access (Value-F.Module m) x v = λ s k. calls (e.SetVar false m.mid x v) (λ reply. member_stored access false m x v reply s k)
sets_member_at access object x v = fails fault.NotInProfile

-- an attribute is set (7.2)
abbrev pub sets_member : Access → Value → List ℕ → Value → Piece
sets_member access object x v = sets_member_at access (out-Value object) x v

-- the attribute is gone; where it was not there, AttributeError, whose text does not name the module
abbrev pub removed : List ℕ → Reply → Piece
removed x r.Done = passes
removed x (r.Unset init) = fails (fault.NotDeleted x)
removed x reply = fails fault.NotInProfile

-- the reply to a deletion that was made raw or not
abbrev pub member_deleted : Access → Bool → ModRef → List ℕ → Reply → Piece
member_deleted access raw m x reply = accessed raw access.roused m (e.DelVar m.mid x true) (removed x) reply

-- only of a module can an attribute be deleted; the deletion is soft, so a lazy one is loaded first
abbrev pub deletes_member_at : Access → Value-F Value → List ℕ → Piece
deletes_member_at access (Value-F.Module m) x = λ s k. calls (e.DelVar m.mid x false) (λ reply. member_deleted access false m x reply s k)
deletes_member_at access object x = fails fault.NotInProfile

-- an attribute is deleted (7.5)
abbrev pub deletes_member : Access → Value → List ℕ → Piece
deletes_member access object x = deletes_member_at access (out-Value object) x
