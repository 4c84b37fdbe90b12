-- Expressions (Language Reference chapter 6): atoms, operators with their operands, and what each gives.
use Rattle.std.specs.Prelude.{ℕ, List, [], ◌∷◌, map, Option, Some, None, Bool, true, false, if◌then◌else◌, not}
use Rattle.std.specs.List.{list_any}
use Rattle.py_value.specs.Measures.{is_true}
use Rattle.py_value.specs.declared.operator.Applied.{Applied}
use Rattle.py_value.specs.declared.operator.Applied.TheVariants as applied
use Rattle.py_value.specs.declared.operator.BinOp.{BinOp}
use Rattle.py_value.specs.declared.operator.BinOp.TheVariants as bin
use Rattle.py_value.specs.declared.operator.CmpOp.TheVariants as cmp
use Rattle.py_value.specs.declared.value.Value.{Value, out-Value}
use Rattle.py_value.specs.declared.value.Value.TheVariants as values
use Rattle.py_value.specs.declared.value.Value.TheOpen.{Value-F}
use Rattle.machine_shown.specs.Shown.{is_namespace_path}
use Rattle.value_operators.specs.Outcomes.{is_special, limited, not_in_profile, truth_value}
use Rattle.value_operators.specs.Arithmetic.{binary, negated}
use Rattle.value_operators.specs.Comparison.{compare, identical}
use Rattle.value_operators.specs.Items.{contains, subscript}
use Rattle.py_syntax.specs.declared.expr.BinaryOp.{BinaryOp}
use Rattle.py_syntax.specs.declared.expr.BinaryOp.TheVariants as op
use Rattle.py_syntax.specs.declared.expr.Comparison.{Comparison}
use Rattle.py_syntax.specs.declared.expr.Comparison.TheVariants as comparing
use Rattle.py_syntax.specs.declared.expr.Expr.{Expr}
use Rattle.py_syntax.specs.declared.expr.Expr.TheOpen.{Expr-F}
use Rattle.py_syntax.specs.declared.expr.Expr.TheFolds.{fold-Expr}
use Rattle.meaning_state.specs.declared.fault.Fault.TheVariants as fault
use Rattle.meaning_state.specs.declared.flow.Flow.TheVariants.{Went}
use Rattle.meaning_script.specs.Pieces.{Piece, pay, on_value, fails, gives, sized, atom, gathers, applied_on, operates, listed, all_listed, with_one, with_two}
use Rattle.meaning_script.specs.Names.{Access, reads, member}
use Rattle.meaning_script.specs.Entries.{reads_entry, has_entry}
use Rattle.meaning_script.specs.Methods.{has_method, calls_method}

-- what stands around a piece: the calls of values, the imports of names, and what accesses of modules go into
pub record Around : Type 0 where
  pub called : Value → List Value → Piece
  pub imported : List ℕ → Piece
  pub access : Access

-- what values are combined by, for each operator that the syntax has (6.7)
abbrev pub operator_of : BinaryOp → BinOp
operator_of op.Add = bin.Add
operator_of op.Sub = bin.Sub
operator_of op.Mul = bin.Mul
operator_of op.FloorDiv = bin.FloorDiv
operator_of op.Mod = bin.Mod

-- the other truth value, where it is one
abbrev pub inverted : Applied → Applied
inverted (applied.Value v) = truth_value (not (is_true v))
inverted (applied.Raised error) = applied.Raised error

-- what a comparison gives (6.10): `in` asks its right operand for its left one, and `not in` and `is not` give the
-- other truth value of `in` and `is` (6.10.2, 6.10.3)
abbrev pub compared : Comparison → Value → Value → Applied
compared comparing.Eq a b = compare cmp.Eq a b
compared comparing.Ne a b = compare cmp.Ne a b
compared comparing.Lt a b = compare cmp.Lt a b
compared comparing.Le a b = compare cmp.Le a b
compared comparing.Gt a b = compare cmp.Gt a b
compared comparing.Ge a b = compare cmp.Ge a b
compared comparing.In a b = contains b a
compared comparing.NotIn a b = inverted (contains b a)
compared comparing.Is a b = identical a b
compared comparing.IsNot a b = inverted (identical a b)

-- a display; what stands for something in the machine is no item
abbrev pub displayed : (List Value → Value) → List Value → Applied
displayed make vs = if list_any is_special vs then not_in_profile else limited (make vs)

-- the operands of a form, from left to right
abbrev pub operands_at : {X : Type 0} → Expr-F X → List X
operands_at (Expr-F.Tuple es) = es
operands_at (Expr-F.List es) = es
operands_at (Expr-F.Attribute object x) = object ∷ []
operands_at (Expr-F.Call callee es) = callee ∷ es
operands_at (Expr-F.Subscript object index) = object ∷ index ∷ []
operands_at (Expr-F.Negative a) = a ∷ []
operands_at (Expr-F.Binary o a b) = a ∷ b ∷ []
operands_at (Expr-F.Compare c a b) = a ∷ b ∷ []
operands_at (Expr-F.Not a) = a ∷ []
operands_at form = []

-- a call, by the callee and its arguments
abbrev pub calls_first : Around → List Value → Piece
calls_first around [] = fails fault.NotInProfile
calls_first around (callee ∷ arguments) = around.called callee arguments

-- an item of a list or tuple, of which none is the path of a namespace
abbrev pub gives_item : Applied → Piece
gives_item (applied.Value v) = if is_namespace_path v then fails fault.NotInProfile else (λ s k. k (Went v) s)
gives_item (applied.Raised error) = gives (applied.Raised error)

-- `v[i]`: an entry of the cache, an item, or a code point
abbrev pub subscripts_at : Value-F Value → Value → Value → Piece
subscripts_at Value-F.SysModules v i = reads_entry i None
subscripts_at object v i = all_listed (v ∷ i ∷ []) (λ vs. with_two vs (λ v i. gives_item (subscript v i)))

-- the same of a value, by how it looks from outside (6.3.2)
abbrev pub subscripts : Value → Value → Piece
subscripts v i = subscripts_at (out-Value v) v i

-- a comparison of two values, none of which is asked of the machine
abbrev pub compares_values : Comparison → Value → Value → Piece
compares_values c a b = all_listed (a ∷ b ∷ []) (λ vs. with_two vs (λ a b. gives (compared c a b)))

-- `in` and `not in`, by what is on the right: the cache is asked for the key, all else is compared as values
abbrev pub compares_in : Comparison → Bool → Value-F Value → Value → Value → Piece
compares_in c is_negated Value-F.SysModules a b = has_entry is_negated a
compares_in c is_negated container a b = compares_values c a b

-- only `in` and `not in` may have the cache as an operand, on their right
abbrev pub compares : Comparison → Value → Value → Piece
compares comparing.In a b = compares_in comparing.In false (out-Value b) a b
compares comparing.NotIn a b = compares_in comparing.NotIn true (out-Value b) a b
compares c a b = compares_values c a b

-- what a form gives on the values of its operands
abbrev pub applies_at : {X : Type 0} → Around → Expr-F X → List Value → Piece
applies_at around (Expr-F.Tuple es) vs = gives (displayed values.Tuple vs)
applies_at around (Expr-F.List es) vs = gives (displayed values.List vs)
applies_at around (Expr-F.Attribute object x) vs = with_one vs (λ v. member around.access v x)
applies_at around (Expr-F.Call callee es) vs = calls_first around vs
applies_at around (Expr-F.Subscript object index) vs = with_two vs (λ v i. subscripts v i)
applies_at around (Expr-F.Negative a) vs = with_one vs (λ v. listed v (λ v. gives (negated v)))
applies_at around (Expr-F.Binary o a b) vs = all_listed vs (λ vs. with_two vs (λ x y. gives (binary (operator_of o) x y)))
applies_at around (Expr-F.Compare c a b) vs = with_two vs (λ a b. compares c a b)
applies_at around (Expr-F.Not a) vs = with_one vs (λ v. listed v (λ v. gives (truth_value (not (is_true v)))))
applies_at around form vs = fails fault.NotInProfile

-- what an atom gives
abbrev pub atom_at : {X : Type 0} → Access → Expr-F X → Piece
atom_at access (Expr-F.Name x) = reads access x
atom_at access (Expr-F.Number n) = gives (applied.Value (values.Int n))
atom_at access (Expr-F.Str text) = gives (limited (values.Text text))
atom_at access Expr-F.Nothing = gives (applied.Value values.Nothing)
atom_at access Expr-F.True = gives (applied.Value (values.Bool true))
atom_at access Expr-F.False = gives (applied.Value (values.Bool false))
atom_at access form = fails fault.NotInProfile

-- `and` and `or` pay a unit after the left operand, which is the value where it decides; else the right one is
abbrev pub conjoins : Piece → Value → Piece
conjoins b v = listed v (λ v s k. if is_true v then b s (sized k) else sized k (Went v) s)

-- `or`: a left operand that counts as true is the value, else the right one is evaluated (6.11)
abbrev pub disjoins : Piece → Value → Piece
disjoins b v = listed v (λ v s k. if is_true v then sized k (Went v) s else b s (sized k))

-- Callees. An attribute that is called may be a method of
-- `sys.path` or `sys.modules`, which have no values of their own.

-- an attribute as a callee: what its object does, and its name
pub record AttributePart : Type 0 where
  pub object : Piece
  pub name : List ℕ

-- a form: what it does, and what it is as a callee where it is an attribute
pub record Part : Type 0 where
  pub does : Piece
  pub attribute : Option AttributePart

-- behind the object of an attribute that is called, and its unit:
-- the arguments of the method, or the attribute and the arguments
abbrev pub calls_member : Around → List ℕ → List Piece → Value → Piece
calls_member around x ps object =
    if has_method object x
    then operates ps (calls_method object x)
    else (λ s k. member around.access object x s (sized (on_value k (λ f s. gathers ps (f ∷ []) (applied_on (calls_first around)) s k))))

-- a call (6.3.4): its operands are the callee and the arguments; but of an attribute the object comes first, since it
-- decides whether a method is called
abbrev pub calls_part : Around → Option AttributePart → Piece → List Piece → Piece
calls_part around None callee ps = operates (callee ∷ ps) (calls_first around)
calls_part around (Some a) callee ps = λ s k. a.object s (on_value k (λ object s. pay 1 (calls_member around a.name ps object s k)))

-- what operands do; what they would be as callees is of no account
abbrev pub does_of : List Part → List Piece
does_of parts = map (λ (p : Part). p.does) parts

-- what a form does, by what its parts do: `and` and `or` may leave out their right operand, an atom has no operands,
-- a call goes by its callee, and each other form is applied to the values of its operands
abbrev pub expr_at : Around → Expr-F Part → Piece
expr_at around (Expr-F.And a b) = λ s k. a.does s (on_value k (λ v s. pay 1 (conjoins b.does v s k)))
expr_at around (Expr-F.Or a b) = λ s k. a.does s (on_value k (λ v s. pay 1 (disjoins b.does v s k)))
expr_at around (Expr-F.Name x) = atom (reads around.access x)
expr_at around (Expr-F.Number n) = atom (atom_at {X = Part} around.access (Expr-F.Number n))
expr_at around (Expr-F.Str text) = atom (atom_at {X = Part} around.access (Expr-F.Str text))
expr_at around Expr-F.Nothing = atom (atom_at {X = Part} around.access Expr-F.Nothing)
expr_at around Expr-F.True = atom (atom_at {X = Part} around.access Expr-F.True)
expr_at around Expr-F.False = atom (atom_at {X = Part} around.access Expr-F.False)
expr_at around (Expr-F.Call callee es) = calls_part around callee.attribute callee.does (does_of es)
expr_at around form = operates (does_of (operands_at form)) (applies_at around form)

-- only the form `object.name` is an attribute, and keeps what its object does for a call of it
abbrev pub attribute_at : Expr-F Part → Option AttributePart
attribute_at (Expr-F.Attribute object x) = Some (record { object = object.does; name = x })
attribute_at form = None

-- what a form does, and what it is as a callee
abbrev pub part_at : Around → Expr-F Part → Part
part_at around form = record { does = expr_at around form; attribute = attribute_at form }

-- what an expression does
abbrev pub eval : Around → Expr → Piece
eval around expr = (fold-Expr Part (part_at around) expr).does
