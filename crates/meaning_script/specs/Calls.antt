-- Calls of kinds and of built-in functions.
use Rattle.std.specs.Prelude.{ℕ, List, [], ◌∷◌, ◌++◌, codes, Option, Some, None, true, false, nat_lt, length, if◌then◌else◌, Result, Ok, Err, pos}
use Rattle.std.specs.List.{join_by}
use Rattle.py_value.specs.Names.{type_of}
use Rattle.py_value.specs.declared.kind.Kind.{Kind}
use Rattle.py_value.specs.declared.kind.Kind.TheVariants as kinds
use Rattle.py_value.specs.declared.kind.Native.{Native}
use Rattle.py_value.specs.declared.kind.Native.TheVariants as natives
use Rattle.py_value.specs.declared.operator.Applied.{Applied}
use Rattle.py_value.specs.declared.operator.Applied.TheVariants as applied
use Rattle.py_value.specs.declared.value.Raised.{Raised as Error}
use Rattle.py_value.specs.declared.value.Value.{Value, out-Value}
use Rattle.py_value.specs.declared.value.Value.TheVariants as values
use Rattle.py_value.specs.declared.value.Value.TheOpen.{Value-F}
use Rattle.value_operators.specs.Items.{length_of}
use Rattle.value_texts.specs.Texts.{str_of, repr_of}
use Rattle.machine_events.specs.declared.event.Event.TheVariants as e
use Rattle.meaning_state.specs.Faults.{raised}
use Rattle.meaning_state.specs.declared.fault.Fault.TheVariants as fault
use Rattle.meaning_state.specs.declared.flow.Leave.TheVariants.{Raised}
use Rattle.meaning_state.specs.declared.flow.Flow.TheVariants.{Went, Left}
use Rattle.spec_core.specs.Identifiers.{is_dotted}
use Rattle.py_value.specs.declared.value.ModRef.{ModRef}
use Rattle.meaning_script.specs.Pieces.{Piece, Onward, calls, fails, gives, listed, all_listed, done}
use Rattle.meaning_script.specs.Names.{Access, member}

-- a text's own bytes; every other value gives the empty text
abbrev pub text_at : Value-F Value → List ℕ
text_at (Value-F.Text text) = text
text_at v = []

-- the text that a value is
abbrev pub text_of : Value → List ℕ
text_of v = text_at (out-Value v)

-- A kind is called for an error of it; for a KeyError its text is the repr of the argument.

-- the error of this kind with the text that was made of its argument, or the error that making it raised
abbrev pub made_error : Kind → Applied → Applied
made_error kind (applied.Value v) = applied.Value (values.Error (raised kind (text_of v)))
made_error kind (applied.Raised error) = applied.Raised error

-- the `repr` of its argument for a KeyError (`KeyError_str`), and the `str` of it for every other kind
abbrev pub error_text : Kind → Value → Applied
error_text kinds.KeyError v = repr_of v
error_text kind v = str_of v

-- without an argument the text is empty; more than one argument is outside the profile
abbrev pub calls_kind : Kind → List Value → Piece
calls_kind kind [] = gives (applied.Value (values.Error (raised kind [])))
calls_kind kind (v ∷ []) = listed v (λ v. gives (made_error kind (error_text kind v)))
calls_kind kind vs = fails fault.NotInProfile

-- `print` joins the strs of its arguments with blanks, and adds a line end.

-- the `str` of an argument before those behind it: its error counts before theirs
abbrev pub with_str : Applied → Result (List (List ℕ)) Error → Result (List (List ℕ)) Error
with_str (applied.Raised error) others = Err error
with_str (applied.Value v) (Ok texts) = Ok (text_of v ∷ texts)
with_str (applied.Value v) (Err error) = Err error

-- the strs, or the first error
abbrev pub strs_of : List Value → Result (List (List ℕ)) Error
strs_of [] = Ok []
strs_of (v ∷ vs) = with_str (str_of v) (strs_of vs)

-- a blank between each two texts, and a line feed behind the last: `sep` and `end` as they are when not given
abbrev pub line_of : List (List ℕ) → List ℕ
line_of texts = join_by (λ text. text) (codes " ") texts ++ 10 ∷ []

-- a line of more than 65,536 bytes raises ProfileError, and nothing is printed
abbrev pub writes : List ℕ → Piece
writes line = if nat_lt 65536 (length line) then fails fault.TextTooLong else (λ s k. calls (e.Print line) (λ _. k done s))

-- all is printed at once, and only where each argument has its `str`; else the first error is raised
abbrev pub prints : Result (List (List ℕ)) Error → Piece
prints (Ok texts) = writes (line_of texts)
prints (Err error) = λ s k. k (Left (Raised error)) s

-- The other built-in functions.

-- `str()` is the empty text; more than one argument raises TypeError
abbrev pub str_call : List Value → Piece
str_call [] = gives (applied.Value (values.Text []))
str_call (v ∷ []) = listed v (λ v. gives (str_of v))
str_call vs = fails (fault.ArgumentCount natives.Str)

-- `repr(v)`; any other number of arguments raises TypeError
abbrev pub repr_call : List Value → Piece
repr_call (v ∷ []) = listed v (λ v. gives (repr_of v))
repr_call vs = fails (fault.ArgumentCount natives.Repr)

-- the length, where the value has one; where it has none, TypeError tells the type of the value
abbrev pub length_given : Option ℕ → Value → Piece
length_given (Some n) v = gives (applied.Value (values.Int (pos n)))
length_given None v = fails (fault.NoLength (type_of v))

-- `len(v)`: the items of a list or tuple, the code points of a text; any other number of arguments raises TypeError
abbrev pub len_call : List Value → Piece
len_call (v ∷ []) = listed v (λ v. length_given (length_of v) v)
len_call vs = fails (fault.ArgumentCount natives.Len)

-- reads an attribute whose name is a value
abbrev pub member_named_at : Access → Value → Value-F Value → Piece
member_named_at access v (Value-F.Text x) = member access v x
member_named_at access v name = fails fault.NameNotText

-- the same of the name itself; one that is no text raises TypeError
abbrev pub member_named : Access → Value → Value → Piece
member_named access v name = member_named_at access v (out-Value name)

-- only an AttributeError is met
abbrev pub missing_at : Onward → Value → Error → Kind → Onward
missing_at k v error kinds.AttributeError flow s = k (Went v) s
missing_at k v error kind flow s = k flow s

-- with this value in place of an attribute that is missing
abbrev pub defaulting : Onward → Value → Onward
defaulting k d (Left (Raised error)) s = missing_at k d error error.kind (Left (Raised error)) s
defaulting k d flow s = k flow s

-- whether an attribute was there
abbrev pub telling : Onward → Onward
telling k (Went v) s = k (Went (values.Bool true)) s
telling k (Left leave) s = defaulting k (values.Bool false) (Left leave) s

-- `hasattr(v, x)` reads the attribute: an AttributeError says that there is none, any other error is raised
abbrev pub hasattr_call : Access → List Value → Piece
hasattr_call access (v ∷ x ∷ []) = λ s k. member_named access v x s (telling k)
hasattr_call access vs = fails (fault.ArgumentCount natives.HasAttr)

-- `getattr(v, x)`, and `getattr(v, x, d)` where d comes in place of an AttributeError, but of no other error
abbrev pub getattr_call : Access → List Value → Piece
getattr_call access (v ∷ x ∷ []) = member_named access v x
getattr_call access (v ∷ x ∷ d ∷ []) = λ s k. member_named access v x s (defaulting k d)
getattr_call access vs = fails (fault.ArgumentCount natives.GetAttr)

-- The functions of `importlib` and `pyimport`.

-- the kept listings are dropped (`importlib.invalidate_caches`)
abbrev pub invalidate_call : List Value → Piece
invalidate_call [] = λ s k. calls e.Invalidate (λ _. k done s)
invalidate_call vs = fails (fault.ArgumentCount natives.InvalidateCaches)

-- only a module can be reloaded; any other argument raises TypeError
abbrev pub reload_value : (ModRef → Piece) → Value-F Value → Piece
reload_value reloaded (Value-F.Module m) = reloaded m
reload_value reloaded v = fails fault.NotReloadable

-- a module is loaded again (`importlib.reload`)
abbrev pub reload_call : (ModRef → Piece) → List Value → Piece
reload_call reloaded (v ∷ []) = reload_value reloaded (out-Value v)
reload_call reloaded vs = fails (fault.ArgumentCount natives.Reload)

-- the argument is a text that is a dotted name; any other raises ProfileError
abbrev pub lazy_value : (List ℕ → Piece) → Value-F Value → Piece
lazy_value imported (Value-F.Text n) = if is_dotted n then imported n else fails fault.NotInProfile
lazy_value imported v = fails fault.NotInProfile

-- a module is imported that is loaded at its first use (`pyimport.lazy`)
abbrev pub lazy_call : (List ℕ → Piece) → List Value → Piece
lazy_call imported (v ∷ []) = lazy_value imported (out-Value v)
lazy_call imported vs = fails (fault.ArgumentCount natives.Lazy)

-- what the calls of built-in functions go into: accesses of modules, reloads, and lazy imports
pub record Loading : Type 0 where
  pub access : Access
  pub reloaded : ModRef → Piece
  pub lazily : List ℕ → Piece

-- each built-in function by its rule; the arguments of `print` are operands, from left to right, all before any `str`
abbrev pub calls_native : Loading → Native → List Value → Piece
calls_native loading natives.Print vs = all_listed vs (λ vs. prints (strs_of vs))
calls_native loading natives.Str vs = str_call vs
calls_native loading natives.Repr vs = repr_call vs
calls_native loading natives.Len vs = len_call vs
calls_native loading natives.HasAttr vs = hasattr_call loading.access vs
calls_native loading natives.GetAttr vs = getattr_call loading.access vs
calls_native loading natives.InvalidateCaches vs = invalidate_call vs
calls_native loading natives.Reload vs = reload_call loading.reloaded vs
calls_native loading natives.Lazy vs = lazy_call loading.lazily vs
