-- How an expression begins, by its outermost form; `and` and `or` on a left operand; and callees.
use Rattle.std.specs.Prelude.{ℕ, List, [], ◌∷◌, map, Option, Some, None, Bool, true, false, if◌then◌else◌}
use Rattle.py_value.specs.Measures.{is_true}
use Rattle.py_value.specs.declared.value.Value.{Value}
use Rattle.py_syntax.specs.declared.expr.Expr.{Expr, out-Expr}
use Rattle.py_syntax.specs.declared.expr.Expr.TheOpen.{Expr-F}
use Rattle.meaning_state.specs.declared.fault.Fault.TheVariants as fault
use Rattle.meaning_state.specs.declared.flow.Flow.TheVariants.{Went}
use Rattle.meaning_script.specs.Pieces.{Piece, pay, on_value, sized, atom, gathers, applied_on, operates, fails}
use Rattle.meaning_script.specs.Names.{member}
use Rattle.meaning_script.specs.Operators.{Around, calls_first, calls_member, operands_at, applies_at, atom_at, conjoins, disjoins, eval}
use Rattle.py_frames.specs.Does.{arguments_of, method_name}

-- ---- how an expression begins

-- a call: where its callee is an attribute, the object of that comes first
abbrev pub eval_call : Around → Expr → Expr-F Expr → List Expr → Piece
eval_call around callee (Expr-F.Attribute object x) es =
    λ s k. eval around object s (on_value k (λ v s. pay 1 (calls_member around x (map (eval around) es) v s k)))
eval_call around callee form es = operates (eval around callee ∷ map (eval around) es) (calls_first around)

-- behind its left operand `and` or `or` pays a unit
abbrev pub eval_at : Around → Expr-F Expr → Piece
eval_at around (Expr-F.And a b) = λ s k. eval around a s (on_value k (λ v s. pay 1 (conjoins (eval around b) v s k)))
eval_at around (Expr-F.Or a b) = λ s k. eval around a s (on_value k (λ v s. pay 1 (disjoins (eval around b) v s k)))
eval_at around (Expr-F.Name x) = atom (atom_at {X = Expr} around.access (Expr-F.Name x))
eval_at around (Expr-F.Number n) = atom (atom_at {X = Expr} around.access (Expr-F.Number n))
eval_at around (Expr-F.Str text) = atom (atom_at {X = Expr} around.access (Expr-F.Str text))
eval_at around Expr-F.Nothing = atom (atom_at {X = Expr} around.access Expr-F.Nothing)
eval_at around Expr-F.True = atom (atom_at {X = Expr} around.access Expr-F.True)
eval_at around Expr-F.False = atom (atom_at {X = Expr} around.access Expr-F.False)
eval_at around (Expr-F.Call callee es) = eval_call around callee (out-Expr callee) es
eval_at around form = operates (map (eval around) (operands_at form)) (applies_at around form)

-- an atom
abbrev pub atom_of : Around → Expr → Piece
atom_of around e = atom (atom_at around.access (out-Expr e))

-- the left operand of `and` or `or`
abbrev pub left_of : Expr-F Expr → Option Expr
left_of (Expr-F.And a b) = Some a
left_of (Expr-F.Or a b) = Some a
left_of form = None

-- a name, a number, a text, `None`, `True` or `False`; a display, an atom in Language Reference 6.2, is none here
abbrev pub is_atom : Expr-F Expr → Bool
is_atom (Expr-F.Name x) = true
is_atom (Expr-F.Number n) = true
is_atom (Expr-F.Str text) = true
is_atom Expr-F.Nothing = true
is_atom Expr-F.True = true
is_atom Expr-F.False = true
is_atom form = false

-- the object of an attribute, and of the attribute that a call names
abbrev pub object_of : Expr-F Expr → Option Expr
object_of (Expr-F.Attribute object x) = Some object
object_of form = None

-- none where the form is no call, or its callee no attribute
abbrev pub callee_object : Expr-F Expr → Option Expr
callee_object (Expr-F.Call callee es) = object_of (out-Expr callee)
callee_object form = None

-- the name of an attribute, and the arguments of a call, where a form is one
abbrev pub attribute_in : Expr-F Expr → Option (List ℕ)
attribute_in (Expr-F.Attribute object x) = Some x
attribute_in form = None

-- a call without arguments has the empty list; what is no call has none
abbrev pub arguments_in : Expr-F Expr → Option (List Expr)
arguments_in (Expr-F.Call callee es) = Some es
arguments_in form = None

-- ---- `and` and `or` on a left operand that is no list that comes

-- `and`: where the left operand counts as true the right one is the value, else the left (Language Reference 6.11)
abbrev pub conjoined : Around → Expr → Value → Piece
conjoined around b v s k = if is_true v then eval around b s (sized k) else sized k (Went v) s

-- `or`: where the left operand counts as true it is the value, else the right one is (Language Reference 6.11)
abbrev pub disjoined : Around → Expr → Value → Piece
disjoined around b v s k = if is_true v then sized k (Went v) s else eval around b s (sized k)

-- by the form; what is neither `and` nor `or` raises ProfileError
abbrev pub chosen_at : Around → Expr-F Expr → Value → Piece
chosen_at around (Expr-F.And a b) v = conjoined around b v
chosen_at around (Expr-F.Or a b) v = disjoined around b v
chosen_at around form v = fails fault.NotInProfile

-- the same of an expression, by its outermost form
abbrev pub chosen : Around → Expr → Value → Piece
chosen around e v = chosen_at around (out-Expr e) v

-- `and` and `or`, whose left operand decides whether the right one is evaluated (Language Reference 6.11)
abbrev pub is_choice : Expr-F Expr → Bool
is_choice (Expr-F.And a b) = true
is_choice (Expr-F.Or a b) = true
is_choice form = false

-- ---- callees

-- the attribute that a call names is read, and then called
abbrev pub reads_callee : Around → Expr → Value → Piece
reads_callee around e object s k =
    member around.access object (method_name e) s (sized (on_value k (λ f s.
    gathers (map (eval around) (arguments_of e)) (f ∷ []) (applied_on (calls_first around)) s k)))
