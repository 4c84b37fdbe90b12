-- What calls of built-in functions go into, and what they do with operands.
use Rattle.std.specs.Prelude.{ℕ, List, [], ◌∷◌, false, true, if◌then◌else◌}
use Rattle.py_value.specs.declared.kind.Kind.{Kind}
use Rattle.py_value.specs.declared.kind.Native.{Native}
use Rattle.py_value.specs.declared.value.ModRef.{ModRef}
use Rattle.py_value.specs.declared.value.Value.{Value, out-Value}
use Rattle.value_operators.specs.Items.{length_of}
use Rattle.value_texts.specs.Texts.{str_of, repr_of}
use Rattle.spec_core.specs.Identifiers.{is_dotted}
use Rattle.meaning_state.specs.declared.fault.Fault.TheVariants as fault
use Rattle.meaning_script.specs.Pieces.{Piece, fails, gives}
use Rattle.meaning_script.specs.Names.{Access}
use Rattle.meaning_script.specs.Calls.{Loading, calls_native, reload_value, lazy_value, made_error, error_text, length_given, prints, strs_of}
use Rattle.meaning_script.specs.Reload.{reloads}
use Rattle.meaning_script.specs.Meaning.{World, access_in, loading_in, calls_at, imports_at, inside_at}

-- accesses of modules
abbrev pub access_at : World → ℕ → Access
access_at w d = access_in (inside_at w d)

-- reloads
abbrev pub reloads_at : World → ℕ → ModRef → Piece
reloads_at w d = reloads (inside_at w d)

-- `importlib.reload` of a value: what is no module raises TypeError
abbrev pub reloads_value : World → ℕ → Value → Piece
reloads_value w d v = reload_value (reloads_at w d) (out-Value v)

-- imports of modules that are loaded at their first use
abbrev pub imports_lazily : World → ℕ → List ℕ → Piece
imports_lazily w d = imports_at w d false true

-- of this name, where it is one
abbrev pub imports_dotted : World → ℕ → List ℕ → Piece
imports_dotted w d n = if is_dotted n then imports_lazily w d n else fails fault.NotInProfile

-- `pyimport.lazy` of a value: what is no text that is a dotted name raises ProfileError
abbrev pub imports_value : World → ℕ → Value → Piece
imports_value w d v = lazy_value (imports_lazily w d) (out-Value v)

-- all that built-in functions go into, where d more may be open: accesses of modules, reloads and lazy imports
abbrev pub loading_at : World → ℕ → Loading
loading_at w d = loading_in (inside_at w d) (imports_lazily w d)

-- a built-in function is called with these arguments, where d more may be open
abbrev pub calls_built_in : World → ℕ → Native → List Value → Piece
calls_built_in w d n vs = calls_native (loading_at w d) n vs

-- a call of one argument
abbrev pub calls_with_one : World → ℕ → Value → Value → Piece
calls_with_one w d callee v = calls_at w d callee (v ∷ [])

-- ---- with operands

-- a kind called with one argument: an error whose text is its str, for a KeyError its repr; or the error of that
abbrev pub gives_error : Kind → Value → Piece
gives_error kind v = gives (made_error kind (error_text kind v))

-- `print`: the strs of the operands with blanks between and a line end, or the first error instead
abbrev pub prints_all : List Value → Piece
prints_all vs = prints (strs_of vs)

-- `str` of an operand, or its error
abbrev pub gives_str : Value → Piece
gives_str v = gives (str_of v)

-- `repr` of an operand, or its error
abbrev pub gives_repr : Value → Piece
gives_repr v = gives (repr_of v)

-- `len` of an operand; what has no length raises TypeError
abbrev pub gives_length : Value → Piece
gives_length v = length_given (length_of v) v
