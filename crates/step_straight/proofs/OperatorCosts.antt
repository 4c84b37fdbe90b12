-- What operators on two operands pay.
use Rattle.std.proofs.Common.{◌≡◌, ℕ, ◌+◌, List, [], ◌∷◌, map, drop, Option, Some, None, IfSome, Bool, true, false, refl, ◌∙◌, ap, sym, arith}
use Rattle.py_value.specs.declared.operator.Applied.{Applied}
use Rattle.py_value.specs.declared.operator.Applied.TheVariants as applied
use Rattle.py_value.specs.declared.value.Raised.{Raised as Error}
use Rattle.py_value.specs.declared.value.Value.{Value, out-Value}
use Rattle.py_value.specs.declared.value.Value.TheOpen.{Value-F}
use Rattle.value_operators.specs.Arithmetic.{binary}
use Rattle.py_syntax.specs.declared.expr.BinaryOp.{BinaryOp}
use Rattle.py_syntax.specs.declared.expr.Comparison.{Comparison}
use Rattle.py_syntax.specs.declared.expr.Comparison.TheVariants as comparing
use Rattle.py_syntax.specs.declared.expr.Expr.{Expr, out-Expr, out-roll-Expr}
use Rattle.py_syntax.specs.declared.expr.Expr.TheVariants as tree
use Rattle.py_syntax.specs.declared.expr.Expr.TheVariants.{rolls-Binary, rolls-Compare}
use Rattle.py_syntax.specs.declared.expr.Expr.TheOpen.{Expr-F}
use Rattle.meaning_runs.specs.Runs.{Run}
use Rattle.meaning_runs.specs.Costs.{pay, units_of}
use Rattle.meaning_state.specs.declared.thread.State.{State}
use Rattle.meaning_state.specs.declared.thread.Thread.{Thread}
use Rattle.meaning_script.specs.Pieces.{Piece, Onward, on_value, gathers, applied_on, gives, sized, all_listed, with_two}
use Rattle.meaning_script.specs.Operators.{Around, applies_at, compared, compares, compares_in, compares_values, eval, operands_at, operator_of}
use Rattle.meaning_script.specs.Meaning.{World, around_at}
use Rattle.py_frames.specs.Does.{Rest, completes}
use Rattle.py_frames.specs.declared.work.Form.TheVariants.{Expression}
use Rattle.py_frames.specs.Listing.{is_listed, is_listed_at, first_listed}
use Rattle.py_frames.proofs.Operands.{all_unlisted}
use Rattle.step_expressions.specs.Forms.{eval_at}
use Rattle.step_expressions.proofs.Layers.{eval_is}
use Rattle.step_straight.specs.Costs.{Costs}
use Rattle.step_straight.specs.Comes.{Comes, Gives, HasBoth, HasRight, IsOfTwo, Prices, Resumes, given_does}
use Rattle.step_straight.specs.declared.given.Given.TheVariants as given
use Rattle.step_straight.specs.declared.given.Priced.{Priced}
use Rattle.step_straight.proofs.Paying.{costs_as, costs_then}

-- ---- the two operands

means_two : (e a b : Expr) (d : Expr-F Expr) → out-Expr e ≡ d → operands_at d ≡ a ∷ b ∷ []
    → ((around : Around) (s : State) (k : Onward) → eval_at around d s k ≡ gathers (eval around a ∷ eval around b ∷ []) [] (applied_on (applies_at around d)) s k) → IsOfTwo e a b
means_two e a b d is operands means = record {
  operands = ap operands_at is ∙ operands;
  means = λ around s k.
      ap (λ (p : Piece). p s k) (eval_is around e) ∙ ap (λ (d : Expr-F Expr). eval_at around d s k) is ∙ means around s k
      ∙ ap (λ (d : Expr-F Expr). gathers (eval around a ∷ eval around b ∷ []) [] (applied_on (applies_at around d)) s k) (sym is);
}

pub two_of_binary : (e a b : Expr) (o : BinaryOp) → out-Expr e ≡ Expr-F.Binary o a b → IsOfTwo e a b
two_of_binary e a b o is = means_two e a b (Expr-F.Binary o a b) is refl (λ around s k. refl)

pub two_of_compare : (e a b : Expr) (o : Comparison) → out-Expr e ≡ Expr-F.Compare o a b → IsOfTwo e a b
two_of_compare e a b o is = means_two e a b (Expr-F.Compare o a b) is refl (λ around s k. refl)

-- the forms of two operands, of an expression as it was met
pub binary_form : (e a b : Expr) (o : BinaryOp) → e ≡ tree.Binary o a b → out-Expr e ≡ Expr-F.Binary o a b
binary_form e a b o is = ap out-Expr (is ∙ sym (rolls-Binary o a b)) ∙ out-roll-Expr (Expr-F.Binary o a b)

pub compare_form : (e a b : Expr) (o : Comparison) → e ≡ tree.Compare o a b → out-Expr e ≡ Expr-F.Compare o a b
compare_form e a b o is = ap out-Expr (is ∙ sym (rolls-Compare o a b)) ∙ out-roll-Expr (Expr-F.Compare o a b)

-- both have their values
pub has_both : (e a b : Expr) (s : State) (x y : Value) (m n sum : ℕ) → IsOfTwo e a b → Gives a s x m → Gives b s y n → sum ≡ m + n → is_listed x ≡ false → is_listed y ≡ false
    → HasBoth e s x y sum
has_both e a b s x y m n sum two left right is plain too = record {
  left = plain;
  right = too;
  costs = λ around k.
      let go = applied_on (applies_at around (out-Expr e)) in
      costs_as (two.means around s k) refl (costs_then sum is
      (left around (on_value k (λ v s. gathers (eval around b ∷ []) (v ∷ []) go s k)))
      (right around (on_value k (λ v s. gathers [] (x ∷ v ∷ []) go s k))));
}

-- the left one is waited for
pub waits_left : (e a b : Expr) (th : Thread) → IsOfTwo e a b → Comes e th (record { given = given.Waits a []; units = 0 })
waits_left e a b th two w next =
    let around = around_at w th.left in
    let k = next th.left in
    record {
      payments = [];
      all = refl;
      same =
          two.means around th.state k
          ∙ ap (λ (es : List Expr). eval around a th.state (on_value k (λ v s. gathers (map (eval around) (drop 1 es)) (v ∷ []) (completes around (Expression e)) s k))) (sym two.operands);
    }

-- the left one has its value, and the right one is waited for
pub waits_right : (e a b : Expr) (th : Thread) (x : Value) (units : ℕ) → IsOfTwo e a b → Gives a th.state x units
    → Comes e th (record { given = given.Waits b (x ∷ []); units = units })
waits_right e a b th x units two left w next =
    let around = around_at w th.left in
    let k = next th.left in
    costs_as (two.means around th.state k)
    (ap (λ (es : List Expr). eval around b th.state (on_value k (λ v s. gathers (map (eval around) (drop 2 es)) (x ∷ v ∷ []) (completes around (Expression e)) s k))) (sym two.operands))
    (left around (on_value k (λ v s. gathers (eval around b ∷ []) (v ∷ []) (applied_on (applies_at around (out-Expr e))) s k)))

-- the right one came behind the left one
pub came_right : (e a b : Expr) (th : Thread) (x y : Value) → IsOfTwo e a b → is_listed x ≡ false → is_listed y ≡ false → HasRight e th (x ∷ []) y x y 0
came_right e a b th x y two plain too = record {
  left = plain;
  right = too;
  costs = λ w next. record {
    payments = [];
    all = refl;
    same = ap (λ (es : List Expr). gathers (map (eval (around_at w th.left)) (drop 2 es)) (x ∷ y ∷ []) (completes (around_at w th.left) (Expression e)) th.state (next th.left)) two.operands;
  };
}

-- ---- the operator

pub prices_value : (a : Applied) (v : Value) (units sum : ℕ) → a ≡ applied.Value v → sum ≡ units + 1 + units_of v → Prices a units (record { given = given.Value v; units = sum })
prices_value a v units sum of is w d e next s run h =
    costs_then {n = 1 + units_of v} sum (omega (arith, is)) (costs_as refl (ap (λ (a : Applied). pay 1 (gives a s (sized (next d)))) of) h)
    (record { payments = 1 ∷ units_of v ∷ []; all = omega arith; same = refl })

pub prices_error : (a : Applied) (error : Error) (units sum : ℕ) → a ≡ applied.Raised error → sum ≡ units + 1 → Prices a units (record { given = given.Raised error; units = sum })
prices_error a error units sum of is w d e next s run h =
    costs_then {n = 1} sum is (costs_as refl (ap (λ (a : Applied). pay 1 (gives a s (sized (next d)))) of) h)
    (record { payments = 1 ∷ []; all = omega arith; same = refl })

none_first : (x y : Value) → is_listed x ≡ false → is_listed y ≡ false → first_listed (x ∷ y ∷ []) ≡ None
none_first x y left right = rw (left, right) refl

-- an operator of numbers and texts
-- from the operator on two values on
operation_costs : (e a b : Expr) (th : Thread) (o : BinaryOp) (x y : Value) (units : ℕ) (given : Applied) (p : Priced) (w : World) (next : Rest) (run : Run) → out-Expr e ≡ Expr-F.Binary o a b
    → is_listed x ≡ false → is_listed y ≡ false → given ≡ binary (operator_of o) x y → Prices given units p
    → Costs units run (applied_on (applies_at (around_at w th.left) (out-Expr e)) (x ∷ y ∷ []) th.state (next th.left))
    → Costs p.units run (given_does w th.left e p.given next th.state)
operation_costs e a b th o x y units given p w next run is left right gave prices costs =
    let around = around_at w th.left in
    let k = next th.left in
    prices w th.left e next th.state run (costs_as refl
    (ap (λ (d : Expr-F Expr). pay 1 (applies_at around d (x ∷ y ∷ []) th.state (sized k))) is
    ∙ ap (λ (q : Piece). pay 1 (q th.state (sized k))) (all_unlisted (x ∷ y ∷ []) (λ vs. with_two vs (λ x y. gives (binary (operator_of o) x y))) (none_first x y left right))
    ∙ ap (λ (a : Applied). pay 1 (gives a th.state (sized k))) (sym gave))
    costs)

pub comes_operation : (e a b : Expr) (th : Thread) (o : BinaryOp) (x y : Value) (units : ℕ) (given : Applied) (p : Priced) → out-Expr e ≡ Expr-F.Binary o a b → HasBoth e th.state x y units
    → given ≡ binary (operator_of o) x y → Prices given units p → Comes e th p
comes_operation e a b th o x y units given p is both gave prices w next =
    operation_costs e a b th o x y units given p w next _ is both.left both.right gave prices (both.costs (around_at w th.left) (next th.left))

pub resumes_operation : (e a b : Expr) (th : Thread) (o : BinaryOp) (vs : List Value) (v x y : Value) (units : ℕ) (given : Applied) (p : Priced) → out-Expr e ≡ Expr-F.Binary o a b → HasRight e th vs v x y units
    → given ≡ binary (operator_of o) x y → Prices given units p → Resumes e vs v th p
resumes_operation e a b th o vs v x y units given p is has gave prices w next =
    operation_costs e a b th o x y units given p w next _ is has.left has.right gave prices (has.costs w next)

-- a comparison that is asked of no machine
in_values : (c : Comparison) (negated : Bool) (d : Value-F Value) (x y : Value) → is_listed_at d ≡ false → compares_in c negated d x y ≡ compares_values c x y
in_values c negated Value-F.SysModules x y h = absurd (cc h)
in_values c negated d x y h = refl

values_plain : (c : Comparison) (x y : Value) → is_listed x ≡ false → is_listed y ≡ false → compares_values c x y ≡ gives (compared c x y)
values_plain c x y left right = all_unlisted (x ∷ y ∷ []) (λ vs. with_two vs (λ a b. gives (compared c a b))) (none_first x y left right)

compares_plain : (c : Comparison) (x y : Value) → is_listed x ≡ false → is_listed y ≡ false → compares c x y ≡ gives (compared c x y)
compares_plain comparing.In x y left right = in_values comparing.In false (out-Value y) x y right ∙ values_plain comparing.In x y left right
compares_plain comparing.NotIn x y left right = in_values comparing.NotIn true (out-Value y) x y right ∙ values_plain comparing.NotIn x y left right
compares_plain c x y left right = values_plain c x y left right

comparison_costs : (e a b : Expr) (th : Thread) (c : Comparison) (x y : Value) (units : ℕ) (given : Applied) (p : Priced) (w : World) (next : Rest) (run : Run) → out-Expr e ≡ Expr-F.Compare c a b
    → is_listed x ≡ false → is_listed y ≡ false → given ≡ compared c x y → Prices given units p
    → Costs units run (applied_on (applies_at (around_at w th.left) (out-Expr e)) (x ∷ y ∷ []) th.state (next th.left))
    → Costs p.units run (given_does w th.left e p.given next th.state)
comparison_costs e a b th c x y units given p w next run is left right gave prices costs =
    let around = around_at w th.left in
    let k = next th.left in
    prices w th.left e next th.state run (costs_as refl
    (ap (λ (d : Expr-F Expr). pay 1 (applies_at around d (x ∷ y ∷ []) th.state (sized k))) is
    ∙ ap (λ (q : Piece). pay 1 (q th.state (sized k))) (compares_plain c x y left right)
    ∙ ap (λ (a : Applied). pay 1 (gives a th.state (sized k))) (sym gave))
    costs)

pub comes_comparison : (e a b : Expr) (th : Thread) (c : Comparison) (x y : Value) (units : ℕ) (given : Applied) (p : Priced) → out-Expr e ≡ Expr-F.Compare c a b → HasBoth e th.state x y units
    → given ≡ compared c x y → Prices given units p → Comes e th p
comes_comparison e a b th c x y units given p is both gave prices w next =
    comparison_costs e a b th c x y units given p w next _ is both.left both.right gave prices (both.costs (around_at w th.left) (next th.left))

pub resumes_comparison : (e a b : Expr) (th : Thread) (c : Comparison) (vs : List Value) (v x y : Value) (units : ℕ) (given : Applied) (p : Priced) → out-Expr e ≡ Expr-F.Compare c a b → HasRight e th vs v x y units
    → given ≡ compared c x y → Prices given units p → Resumes e vs v th p
resumes_comparison e a b th c vs v x y units given p is has gave prices w next =
    comparison_costs e a b th c x y units given p w next _ is has.left has.right gave prices (has.costs w next)

-- of what was priced, if anything was
pub if_priced : {P Q : Priced → Type 0} (o : Option Priced) → ((p : Priced) → P p → Q p) → IfSome o P → IfSome o Q
if_priced None f h = tt
if_priced (Some p) f h = f p h
