-- The names of kinds, of the functions that scripts find, and of types.
use Rattle.std.specs.Prelude.{ℕ, List, codes}
use Rattle.py_value.specs.declared.kind.Kind.{Kind}
use Rattle.py_value.specs.declared.kind.Kind.TheVariants as kinds
use Rattle.py_value.specs.declared.kind.Native.{Native}
use Rattle.py_value.specs.declared.kind.Native.TheVariants as natives
use Rattle.py_value.specs.declared.names.TypeName.{TypeName}
use Rattle.py_value.specs.declared.names.TypeName.TheVariants as types
use Rattle.py_value.specs.declared.value.Value.{Value, out-Value}
use Rattle.py_value.specs.declared.value.Value.TheOpen.{Value-F}

-- Python's names of its exceptions, with `_DeadlockError` of `importlib._bootstrap`; ProfileError is this project's own
abbrev pub kind_name : Kind → List ℕ
kind_name kinds.BaseException = codes "BaseException"
kind_name kinds.Exception = codes "Exception"
kind_name kinds.ArithmeticError = codes "ArithmeticError"
kind_name kinds.ZeroDivisionError = codes "ZeroDivisionError"
kind_name kinds.AttributeError = codes "AttributeError"
kind_name kinds.ImportError = codes "ImportError"
kind_name kinds.ModuleNotFoundError = codes "ModuleNotFoundError"
kind_name kinds.LookupError = codes "LookupError"
kind_name kinds.IndexError = codes "IndexError"
kind_name kinds.KeyError = codes "KeyError"
kind_name kinds.NameError = codes "NameError"
kind_name kinds.UnboundLocalError = codes "UnboundLocalError"
kind_name kinds.RuntimeError = codes "RuntimeError"
kind_name kinds.RecursionError = codes "RecursionError"
kind_name kinds.DeadlockError = codes "_DeadlockError"
kind_name kinds.SyntaxError = codes "SyntaxError"
kind_name kinds.TypeError = codes "TypeError"
kind_name kinds.ValueError = codes "ValueError"
kind_name kinds.ProfileError = codes "ProfileError"

-- the first six are built in, two are of `importlib`, and `lazy` is of `pyimport`, this project's own
abbrev pub native_name : Native → List ℕ
native_name natives.Print = codes "print"
native_name natives.Str = codes "str"
native_name natives.Repr = codes "repr"
native_name natives.Len = codes "len"
native_name natives.HasAttr = codes "hasattr"
native_name natives.GetAttr = codes "getattr"
native_name natives.InvalidateCaches = codes "invalidate_caches"
native_name natives.Reload = codes "reload"
native_name natives.Lazy = codes "lazy"

-- `str` is a class in Python
abbrev pub native_type : Native → TypeName
native_type natives.Str = types.Type
native_type _ = types.Builtin

-- an error's type is its kind; the cache of modules is a dict, and the two paths are lists
abbrev pub type_at : {X : Type 0} → Value-F X → TypeName
type_at Value-F.Nothing = types.NoneType
type_at (Value-F.Bool b) = types.Bool
type_at (Value-F.Int n) = types.Int
type_at (Value-F.Text text) = types.Str
type_at (Value-F.List items) = types.List
type_at (Value-F.Tuple items) = types.Tuple
type_at (Value-F.Func load index name) = types.Function
type_at (Value-F.Native native) = native_type native
type_at (Value-F.Kind kind) = types.Type
type_at (Value-F.Module held) = types.Module
type_at (Value-F.Error error) = types.Error error.kind
type_at Value-F.SysModules = types.Dict
type_at Value-F.SysPath = types.List
type_at Value-F.NsPath = types.List

-- a value's type goes by its outer layer, whatever it holds
abbrev pub type_of : Value → TypeName
type_of value = type_at (out-Value value)

-- the `__name__` of the type in Python; an error's type has the name of its kind
abbrev pub type_text : TypeName → List ℕ
type_text types.NoneType = codes "NoneType"
type_text types.Bool = codes "bool"
type_text types.Int = codes "int"
type_text types.Str = codes "str"
type_text types.List = codes "list"
type_text types.Tuple = codes "tuple"
type_text types.Function = codes "function"
type_text types.Builtin = codes "builtin_function_or_method"
type_text types.Type = codes "type"
type_text types.Module = codes "module"
type_text types.Dict = codes "dict"
type_text (types.Error kind) = kind_name kind

-- how messages call the type of a value
abbrev pub type_name : Value → List ℕ
type_name value = type_text (type_of value)
