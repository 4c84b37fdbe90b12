-- What an operator does on the values of its operands, by its form; lists of so many values; and operands in whose
-- place a list comes.
use Rattle.std.specs.Prelude.{ℕ, List, [], ◌∷◌, Option, Some, None, Bool, true, false, not, if◌then◌else◌}
use Rattle.py_value.specs.Measures.{is_true}
use Rattle.py_value.specs.declared.value.Value.{Value}
use Rattle.py_value.specs.declared.value.Value.TheVariants as values
use Rattle.value_operators.specs.Arithmetic.{augmented, binary, negated}
use Rattle.value_operators.specs.Items.{subscript}
use Rattle.value_operators.specs.Outcomes.{truth_value}
use Rattle.py_syntax.specs.declared.expr.BinaryOp.{BinaryOp}
use Rattle.py_syntax.specs.declared.expr.Comparison.{Comparison}
use Rattle.py_syntax.specs.declared.expr.Comparison.TheVariants as comparing
use Rattle.py_syntax.specs.declared.expr.Expr.{Expr, out-Expr}
use Rattle.py_syntax.specs.declared.expr.Expr.TheOpen.{Expr-F}
use Rattle.meaning_state.specs.declared.fault.Fault.TheVariants as fault
use Rattle.meaning_state.specs.declared.thread.Thread.{Thread}
use Rattle.meaning_runs.specs.Runs.{Run}
use Rattle.meaning_script.specs.Pieces.{Piece, on_value, sized, fails, gives}
use Rattle.meaning_script.specs.Names.{member, stores}
use Rattle.meaning_script.specs.Entries.{reads_entry, has_entry}
use Rattle.meaning_script.specs.Operators.{Around, operator_of, compared, displayed, gives_item, calls_first}
use Rattle.meaning_script.specs.Meaning.{World}
use Rattle.py_frames.specs.Few.{is_cache}
use Rattle.py_frames.specs.Listing.{first_listed}
use Rattle.py_frames.specs.Does.{Rest, pieces}

-- a piece whose value pays its size
abbrev pub sizes : (World → ℕ → Piece) → Thread → World → Rest → Run
sizes piece = pieces (λ w d s k. piece w d s (sized k))

-- a call (Language Reference 6.3.4): applied to values it calls the first with the others
abbrev pub is_call : Expr-F Expr → Bool
is_call (Expr-F.Call callee es) = true
is_call form = false

-- ---- lists of so many values

-- the value, where there is exactly one
abbrev pub one_of : List Value → Option Value
one_of (a ∷ []) = Some a
one_of vs = None

-- both values, in order, where there are exactly two
abbrev pub two_of : List Value → Option (Value × Value)
two_of (a ∷ b ∷ []) = Some (a, b)
two_of vs = None

-- goes on with the one value; at any other number ProfileError is raised
abbrev pub by_one : Option Value → (Value → Piece) → Piece
by_one None go = fails fault.NotInProfile
by_one (Some a) go = go a

-- goes on with both values; at any other number ProfileError is raised
abbrev pub by_two : Option (Value × Value) → (Value → Value → Piece) → Piece
by_two None go = fails fault.NotInProfile
by_two (Some p) go = go p.0 p.1

-- ---- operands that are no list that comes

-- `v[i]`: an entry of the cache, an item, or a code point
abbrev pub item_of : Value → Value → Piece
item_of v i = if is_cache v then reads_entry i None else gives_item (subscript v i)

-- a comparison; whether a key is in the cache is asked of the machine
abbrev pub told_in : Comparison → Bool → Value → Value → Piece
told_in c is_negated a b = if is_cache b then has_entry is_negated a else gives (compared c a b)

-- only `in` and `not in` may ask the machine (Language Reference 6.10.2); all others compare the two values alone
abbrev pub told : Comparison → Value → Value → Piece
told comparing.In a b = told_in comparing.In false a b
told comparing.NotIn a b = told_in comparing.NotIn true a b
told c a b = gives (compared c a b)

-- `not` gives `False` for what counts as true, and `True` for all else (Language Reference 6.11)
abbrev pub inverse_of : Value → Piece
inverse_of v = gives (truth_value (not (is_true v)))

-- `-v` (Language Reference 6.6), or the error of what has no negative
abbrev pub negative_of : Value → Piece
negative_of v = gives (negated v)

-- `x o y` of arithmetic (Language Reference 6.7), or its error
abbrev pub operation_of : BinaryOp → Value → Value → Piece
operation_of o x y = gives (binary (operator_of o) x y)

-- the attribute of the one value, which is its object (Language Reference 6.3.1)
abbrev pub member_of : Around → List ℕ → List Value → Piece
member_of around x vs = by_one (one_of vs) (λ v. member around.access v x)

-- what a form gives on the values of its operands, by how many they are
abbrev pub given_at : Around → Expr-F Expr → List Value → Piece
given_at around (Expr-F.Tuple es) vs = gives (displayed values.Tuple vs)
given_at around (Expr-F.List es) vs = gives (displayed values.List vs)
given_at around (Expr-F.Attribute object x) vs = member_of around x vs
given_at around (Expr-F.Call callee es) vs = calls_first around vs
given_at around (Expr-F.Subscript object index) vs = by_two (two_of vs) item_of
given_at around (Expr-F.Negative a) vs = by_one (one_of vs) negative_of
given_at around (Expr-F.Binary o a b) vs = by_two (two_of vs) (operation_of o)
given_at around (Expr-F.Compare c a b) vs = by_two (two_of vs) (told c)
given_at around (Expr-F.Not a) vs = by_one (one_of vs) inverse_of
given_at around form vs = fails fault.NotInProfile

-- the same of an expression, by its outermost form
abbrev pub given_on : Around → Expr → List Value → Piece
given_on around e vs = given_at around (out-Expr e) vs

-- an augmented assignment
abbrev pub augmented_by : List ℕ → BinaryOp → Option (Value × Value) → Piece
augmented_by x o both s k =
    by_two both (λ a b. gives (augmented (operator_of o) a b)) s (sized (on_value k (λ v s. stores x v s k)))

-- ---- the place of the operand in whose place a list comes first, or which is none

-- of one operand: its own place, where it stands for the search path or the cache
abbrev pub place_of_one : List Value → Option ℕ
place_of_one (v ∷ []) = first_listed (v ∷ [])
place_of_one vs = None

-- of `v[i]`: as of two operands, but none where `v` is the cache, since an entry of it is read
abbrev pub place_in_item : List Value → Option ℕ
place_in_item (v ∷ i ∷ []) = if is_cache v then None else first_listed (v ∷ i ∷ [])
place_in_item vs = None

-- of two operands: the first that stands for the search path or the cache
abbrev pub place_of_two : List Value → Option ℕ
place_of_two (a ∷ b ∷ []) = first_listed (a ∷ b ∷ [])
place_of_two vs = None

-- of `a in b`: as of two operands, but none where `b` is the cache, since the machine is asked whether it has `a`
abbrev pub place_in_cache : List Value → Option ℕ
place_in_cache (a ∷ b ∷ []) = if is_cache b then None else first_listed (a ∷ b ∷ [])
place_in_cache vs = None

-- by the comparison: `in` and `not in` may be asked of the cache, all others are of two operands
abbrev pub place_compared : Comparison → List Value → Option ℕ
place_compared comparing.In vs = place_in_cache vs
place_compared comparing.NotIn vs = place_in_cache vs
place_compared c vs = place_of_two vs

-- by the form: in place of an operand of an attribute, a call or a display no list comes
abbrev pub place_at : Expr-F Expr → List Value → Option ℕ
place_at (Expr-F.Subscript object index) vs = place_in_item vs
place_at (Expr-F.Negative a) vs = place_of_one vs
place_at (Expr-F.Binary o a b) vs = first_listed vs
place_at (Expr-F.Compare c a b) vs = place_compared c vs
place_at (Expr-F.Not a) vs = place_of_one vs
place_at form vs = None
