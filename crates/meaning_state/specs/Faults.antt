-- The error of each fault: its kind and its text, and for an import the name that was asked for.
use Rattle.std.specs.Prelude.{ℕ, List, ◌++◌, codes, Some, None, Bool, true, false}
use Rattle.std.specs.Fmt.{decimal}
use Rattle.py_value.specs.Names.{type_text, native_name}
use Rattle.py_value.specs.declared.kind.Kind.{Kind}
use Rattle.py_value.specs.declared.kind.Kind.TheVariants as kinds
use Rattle.py_value.specs.declared.value.Place.{Place}
use Rattle.py_value.specs.declared.value.Place.TheVariants as places
use Rattle.py_value.specs.declared.value.Raised.{Raised}
use Rattle.meaning_state.specs.declared.fault.Fault.{Fault}
use Rattle.meaning_state.specs.declared.fault.Fault.TheVariants as fault

-- an error without a name
abbrev pub raised : Kind → List ℕ → Raised
raised kind text = record { kind = kind; text = text; name = None }

-- an import failed that has to do with the module of this name
abbrev pub import_error : List ℕ → List ℕ → Raised
import_error text name = record { kind = kinds.ImportError; text = text; name = Some name }

-- an import of the name failed, as there is no such module
abbrev pub not_found : List ℕ → List ℕ → Raised
not_found text name = record { kind = kinds.ModuleNotFoundError; text = text; name = Some name }

-- a module lacks the attribute; one that is still initialising is called partially initialized, as in CPython 3.12
abbrev pub no_attribute : Bool → List ℕ → List ℕ → List ℕ
no_attribute false m x = codes "module '" ++ m ++ codes "' has no attribute '" ++ x ++ codes "'"
no_attribute true m x =
    codes "partially initialized module '" ++ m ++ codes "' has no attribute '" ++ x ++ codes "' (most likely due to a circular import)"

-- where a `from` import looked for a name: in a module of a file, or in one without
abbrev pub source_of : Bool → List ℕ → List ℕ
source_of false m = codes "' from '" ++ m ++ codes "' ("
source_of true m = codes "' from partially initialized module '" ++ m ++ codes "' (most likely due to a circular import) ("

-- a file is told, and whether its module is initialising; without a file the location is unknown, and neither is told
-- (`import_from` of CPython 3.12)
abbrev pub looked_in : Place → Bool → List ℕ → List ℕ
looked_in (places.File file) init m = source_of init m ++ file ++ codes ")"
looked_in place init m = codes "' from '" ++ m ++ codes "' (unknown location)"

-- why: its parent is no package
abbrev pub not_package : List ℕ → List ℕ
not_package p = codes "'; '" ++ p ++ codes "' is not a package"

-- the error that each fault is, with a name only where an import or a reload failed; one that is given stays as it is
abbrev pub error_of : Fault → Raised
error_of (fault.NotDefined x) = raised kinds.NameError (codes "name '" ++ x ++ codes "' is not defined")
error_of (fault.Unbound x) =
    raised kinds.UnboundLocalError (codes "cannot access local variable '" ++ x ++ codes "' where it is not associated with a value")
error_of (fault.NoAttribute init m x) = raised kinds.AttributeError (no_attribute init m x)
error_of (fault.NotDeleted x) = raised kinds.AttributeError (codes "'module' object has no attribute '" ++ x ++ codes "'")
error_of (fault.ArgumentCount native) = raised kinds.TypeError (codes "wrong number of arguments for " ++ native_name native ++ codes "()")
error_of (fault.Parameters f takes given) =
    raised kinds.TypeError (f ++ codes "() takes " ++ decimal takes ++ codes " arguments, " ++ decimal given ++ codes " given")
error_of (fault.NoLength t) = raised kinds.TypeError (codes "object of type '" ++ type_text t ++ codes "' has no len()")
error_of fault.NameNotText = raised kinds.TypeError (codes "attribute name must be string")
error_of (fault.NoItemAssignment t) = raised kinds.TypeError (codes "'" ++ type_text t ++ codes "' object does not support item assignment")
error_of (fault.NotCallable t) = raised kinds.TypeError (codes "'" ++ type_text t ++ codes "' object is not callable")
error_of fault.NoException = raised kinds.TypeError (codes "exceptions must derive from BaseException")
error_of fault.NothingToRaise = raised kinds.RuntimeError (codes "No active exception to reraise")
error_of fault.NotCaught = raised kinds.TypeError (codes "catching classes that do not inherit from BaseException is not allowed")
error_of fault.TooDeep = raised kinds.RecursionError (codes "maximum recursion depth exceeded")
error_of fault.TextTooLong = raised kinds.ProfileError (codes "text too long")
error_of fault.NotInProfile = raised kinds.ProfileError (codes "not in the profile")
error_of (fault.Halted n) = not_found (codes "import of " ++ n ++ codes " halted; None in sys.modules") n
error_of (fault.NotFound n) = not_found (codes "No module named '" ++ n ++ codes "'") n
error_of (fault.NotPackage n p) = not_found (codes "No module named '" ++ n ++ not_package p) n
error_of (fault.CannotImport init m place x) = import_error (codes "cannot import name '" ++ x ++ looked_in place init m) m
error_of fault.NoParentPackage = raised kinds.ImportError (codes "attempted relative import with no known parent package")
error_of fault.BeyondTop = raised kinds.ImportError (codes "attempted relative import beyond top-level package")
error_of (fault.Deadlock n) = raised kinds.DeadlockError (codes "deadlock detected by _ModuleLock('" ++ n ++ codes "')")
error_of (fault.Lost n) = raised kinds.KeyError (codes "'" ++ n ++ codes "'")
error_of fault.TooLong = raised kinds.SyntaxError (codes "source is longer than 1048576 bytes")
error_of (fault.MethodCount x) = raised kinds.TypeError (codes "wrong number of arguments for " ++ x ++ codes "()")
error_of fault.NotIndices = raised kinds.TypeError (codes "indices must be integers")
error_of fault.Unhashable = raised kinds.TypeError (codes "unhashable type: 'list'")
error_of fault.PathFull = raised kinds.ProfileError (codes "list too long")
error_of fault.PathTooDeep = raised kinds.ProfileError (codes "list too deep")
error_of fault.NotReloadable = raised kinds.TypeError (codes "reload() argument must be a module")
error_of (fault.NotCached n) = import_error (codes "module " ++ n ++ codes " not in sys.modules") n
error_of (fault.NoLongerCached n) = import_error (codes "module '" ++ n ++ codes "' not in sys.modules") n
error_of (fault.ParentNotCached p) = import_error (codes "parent '" ++ p ++ codes "' not in sys.modules") p
error_of fault.NothingHasNoPath = raised kinds.AttributeError (codes "'NoneType' object has no attribute '__path__'")
error_of (fault.NoSpec n) = not_found (codes "spec not found for the module '" ++ n ++ codes "'") n
error_of (fault.Given error) = error
