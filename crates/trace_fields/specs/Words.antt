-- The words that stand for kinds, natives and the values without parts.
use Rattle.std.specs.Prelude.{ℕ, List, [], ◌∷◌, map, codes, true, false, Option}
use Rattle.py_value.specs.declared.kind.Kind.{Kind}
use Rattle.py_value.specs.declared.kind.Kind.TheVariants as kinds
use Rattle.py_value.specs.declared.kind.Native.{Native}
use Rattle.py_value.specs.declared.kind.Native.TheVariants as natives
use Rattle.py_value.specs.declared.value.Value.{Value}
use Rattle.py_value.specs.declared.value.Value.TheVariants as values
use Rattle.py_value.specs.Names.{kind_name, native_name}
use Rattle.trace_fields.specs.Fields.{lookup}
use Rattle.trace_fields.specs.declared.words.Constant.{Constant}
use Rattle.trace_fields.specs.declared.words.Constant.TheVariants as constants

-- all kinds of errors, each once
abbrev pub all_kinds : List Kind
all_kinds =
    kinds.BaseException ∷ kinds.Exception ∷ kinds.ArithmeticError ∷ kinds.ZeroDivisionError ∷ kinds.AttributeError ∷ kinds.ImportError ∷ kinds.ModuleNotFoundError
    ∷ kinds.LookupError ∷ kinds.IndexError ∷ kinds.KeyError ∷ kinds.NameError ∷ kinds.UnboundLocalError ∷ kinds.RuntimeError ∷ kinds.RecursionError ∷ kinds.DeadlockError
    ∷ kinds.SyntaxError ∷ kinds.TypeError ∷ kinds.ValueError ∷ kinds.ProfileError ∷ []

-- all native functions, each once
abbrev pub all_natives : List Native
all_natives = natives.Print ∷ natives.Str ∷ natives.Repr ∷ natives.Len ∷ natives.HasAttr ∷ natives.GetAttr ∷ natives.InvalidateCaches ∷ natives.Reload ∷ natives.Lazy ∷ []

-- the kind that has this name, as `ImportError` or `_DeadlockError`
abbrev pub kind_in : List ℕ → Option Kind
kind_in field = lookup field (map (λ kind. (kind_name kind, kind)) all_kinds)

-- the native function that has this name, as `print`
abbrev pub native_in : List ℕ → Option Native
native_in field = lookup field (map (λ native. (native_name native, native)) all_natives)

-- all values without parts that one word spells, each once
abbrev pub all_constants : List Constant
all_constants = constants.Nothing ∷ constants.True ∷ constants.False ∷ constants.SysModules ∷ constants.SysPath ∷ constants.NsPath ∷ []

-- None and the truth values are spelled as in Python; the other three have words of the format
abbrev pub constant_word : Constant → List ℕ
constant_word constants.Nothing = codes "None"
constant_word constants.True = codes "True"
constant_word constants.False = codes "False"
constant_word constants.SysModules = codes "sysmodules"
constant_word constants.SysPath = codes "syspath"
constant_word constants.NsPath = codes "nspath"

-- the value that this word spells by itself, where it does
abbrev pub constant_in : List ℕ → Option Constant
constant_in field = lookup field (map (λ constant. (constant_word constant, constant)) all_constants)

-- the value that each of these words stands for
abbrev pub constant_value : Constant → Value
constant_value constants.Nothing = values.Nothing
constant_value constants.True = values.Bool true
constant_value constants.False = values.Bool false
constant_value constants.SysModules = values.SysModules
constant_value constants.SysPath = values.SysPath
constant_value constants.NsPath = values.NsPath
