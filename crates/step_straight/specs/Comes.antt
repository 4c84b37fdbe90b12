-- What expressions come to at once.
use Rattle.std.specs.Prelude.{◌≡◌, ℕ, List, [], ◌∷◌, Bool, true, false}
use Rattle.py_value.specs.declared.operator.Applied.{Applied}
use Rattle.py_value.specs.declared.value.Value.{Value}
use Rattle.meaning_runs.specs.Runs.{Run}
use Rattle.py_syntax.specs.declared.expr.Expr.{Expr, out-Expr}
use Rattle.meaning_state.specs.declared.flow.Leave.TheVariants.{Raised}
use Rattle.meaning_state.specs.declared.flow.Flow.TheVariants.{Went, Left}
use Rattle.meaning_state.specs.declared.thread.State.{State}
use Rattle.meaning_state.specs.declared.thread.Thread.{Thread}
use Rattle.meaning_script.specs.Names.{Access}
use Rattle.meaning_script.specs.Operators.{Around, applies_at, atom_at, eval, operands_at}
use Rattle.meaning_script.specs.Pieces.{Onward, applied_on, gathers, gives, pay, sized}
use Rattle.meaning_script.specs.Meaning.{World, around_at}
use Rattle.py_frames.specs.Does.{Rest, frame_does, item_does}
use Rattle.py_frames.specs.declared.work.Form.TheVariants.{Expression}
use Rattle.py_frames.specs.declared.work.Frame.TheVariants as frame
use Rattle.py_frames.specs.declared.work.Item.TheVariants as it
use Rattle.py_frames.specs.Listing.{is_listed}
use Rattle.step_expressions.specs.Forms.{is_atom}
use Rattle.step_straight.specs.Costs.{Costs}
use Rattle.step_straight.specs.declared.given.Given.{Given}
use Rattle.step_straight.specs.declared.given.Given.TheVariants as given
use Rattle.step_straight.specs.declared.given.Priced.{Priced}
use Rattle.step_straight.specs.declared.operators.Both.{Both}
use Rattle.step_straight.specs.declared.operators.Both.TheVariants as both
use Rattle.step_straight.specs.declared.resuming.Right.{Right}
use Rattle.step_straight.specs.declared.resuming.Right.TheVariants as right

-- the expression is an atom, and in this state it has this value without an event
pub record IsAtomOf (e : Expr) (s : State) (v : Value) : Type 0 where
  pub atom : is_atom (out-Expr e) ≡ true
  pub value : (access : Access) (k : Onward) → atom_at {X = Expr} access (out-Expr e) s k ≡ k (Went v) s

-- in this state the expression comes to this value, and pays so many units for it
abbrev pub Gives : Expr → State → Value → ℕ → Type 0
Gives e s v units = (around : Around) (k : Onward) → Costs units (eval around e s k) (k (Went v) s)

-- the expression has these two operands, and is applied to their values
pub record IsOfTwo (e a b : Expr) : Type 0 where
  pub operands : operands_at (out-Expr e) ≡ a ∷ b ∷ []
  pub means : (around : Around) (s : State) (k : Onward)
      → eval around e s k
      ≡ gathers (eval around a ∷ eval around b ∷ []) [] (applied_on (applies_at around (out-Expr e))) s k

-- the operands of the expression have these values, neither of which a list comes for, and so many units are paid for
-- both; what comes next is the operator
pub record HasBoth (e : Expr) (s : State) (x y : Value) (units : ℕ) : Type 0 where
  pub left : is_listed x ≡ false
  pub right : is_listed y ≡ false
  pub costs : (around : Around) (k : Onward)
      → Costs units (eval around e s k) (applied_on (applies_at around (out-Expr e)) (x ∷ y ∷ []) s k)

-- what the expression `e` came to, and then `next`: its value, its error, or the value of an operand that is not at
-- hand, for which the frame waits that gathers its operands
abbrev pub given_does : World → ℕ → Expr → Given → Rest → State → Run
given_does w d e (given.Value v) next s = next d (Went v) s
given_does w d e (given.Raised error) next s = next d (Left (Raised error)) s
given_does w d e (given.Waits operand vs) next s =
    item_does w d (it.Eval operand) (λ d. frame_does w d (frame.Operands (Expression e) vs) next) s

-- the expression came to this for its price
abbrev pub Comes : Expr → Thread → Priced → Type 0
Comes e th p = (w : World) (next : Rest)
    → Costs p.units (item_does w th.left (it.Eval e) next th.state) (given_does w th.left e p.given next th.state)

-- what the operands of an expression came to
abbrev pub BothCome : Expr → Thread → Both → Type 0
BothCome e th (both.Values x y units) = HasBoth e th.state x y units
BothCome e th (both.Waits p) = Comes e th p
BothCome e th both.Later = Unit {0}

-- whatever comes to an operator that gives this, behind so many units, comes to this price
abbrev pub Prices : Applied → ℕ → Priced → Type 0
Prices applied units p = (w : World) (d : ℕ) (e : Expr) (next : Rest) (s : State) (run : Run)
    → Costs units run (pay 1 (gives applied s (sized (next d)))) → Costs p.units run (given_does w d e p.given next s)

-- the expression has two operands, of which this is the right one
pub record IsRightOf (e b : Expr) : Type 0 where
  pub left : Expr
  pub two : IsOfTwo e left b

-- a value came to the frame that gathers the operands of an expression, and so that came to this for its price
abbrev pub Resumes : Expr → List Value → Value → Thread → Priced → Type 0
Resumes e vs v th p = (w : World) (next : Rest)
    → Costs p.units (frame_does w th.left (frame.Operands (Expression e) vs) next (Went v) th.state)
    (given_does w th.left e p.given next th.state)

-- so many units are paid behind a value that came to that frame, and what comes next is the operator on both values, of
-- which neither is one that a list comes for
pub record HasRight (e : Expr) (th : Thread) (vs : List Value) (v x y : Value) (units : ℕ) : Type 0 where
  pub left : is_listed x ≡ false
  pub right : is_listed y ≡ false
  pub costs : (w : World) (next : Rest)
      → Costs units (frame_does w th.left (frame.Operands (Expression e) vs) next (Went v) th.state)
      (applied_on (applies_at (around_at w th.left) (out-Expr e)) (x ∷ y ∷ []) th.state (next th.left))

-- what the right operand came to, behind the value of the left one
abbrev pub RightComes : Expr → Thread → Value → Right → Type 0
RightComes e th x (right.Value b) = HasRight e th [] x x b.value b.units
RightComes e th x (right.Waits p) = Resumes e [] x th p
RightComes e th x right.Later = Unit {0}
