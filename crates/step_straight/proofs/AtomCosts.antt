-- What atoms pay.
use Rattle.std.proofs.Common.{◌≡◌, ℕ, ◌+◌, List, [], ◌∷◌, true, refl, ◌∙◌, ap, sym, arith}
use Rattle.std.proofs.lemmas.Bool.{false≢true}
use Rattle.py_value.specs.declared.value.Value.{Value}
use Rattle.py_syntax.specs.declared.expr.Expr.{Expr, out-Expr}
use Rattle.py_syntax.specs.declared.expr.Expr.TheOpen.{Expr-F}
use Rattle.meaning_runs.specs.Runs.{Run}
use Rattle.meaning_runs.specs.Costs.{pay, units_of}
use Rattle.meaning_state.specs.declared.thread.State.{State}
use Rattle.meaning_script.specs.Pieces.{Piece, Onward, sized}
use Rattle.meaning_script.specs.Operators.{Around, atom_at, eval}
use Rattle.step_expressions.specs.Forms.{eval_at, is_atom}
use Rattle.step_expressions.proofs.Layers.{eval_is}
use Rattle.step_straight.specs.Comes.{Gives, IsAtomOf}
use Rattle.step_straight.proofs.Paying.{costs_as}

by_form : (around : Around) (d : Expr-F Expr) (s : State) (k : Onward) → is_atom d ≡ true → eval_at around d s k ≡ pay 1 (atom_at {X = Expr} around.access d s (sized k))
by_form around (Expr-F.Name x) s k h = refl
by_form around (Expr-F.Number n) s k h = refl
by_form around (Expr-F.Str text) s k h = refl
by_form around Expr-F.Nothing s k h = refl
by_form around Expr-F.True s k h = refl
by_form around Expr-F.False s k h = refl
by_form around (Expr-F.Tuple es) s k h = absurd (false≢true h)
by_form around (Expr-F.List es) s k h = absurd (false≢true h)
by_form around (Expr-F.Attribute a x) s k h = absurd (false≢true h)
by_form around (Expr-F.Call f es) s k h = absurd (false≢true h)
by_form around (Expr-F.Subscript a b) s k h = absurd (false≢true h)
by_form around (Expr-F.Negative a) s k h = absurd (false≢true h)
by_form around (Expr-F.Binary o a b) s k h = absurd (false≢true h)
by_form around (Expr-F.Compare o a b) s k h = absurd (false≢true h)
by_form around (Expr-F.Not a) s k h = absurd (false≢true h)
by_form around (Expr-F.And a b) s k h = absurd (false≢true h)
by_form around (Expr-F.Or a b) s k h = absurd (false≢true h)

-- an atom pays its unit and the size of its value
pub gives_atom : (e : Expr) (s : State) (v : Value) (units : ℕ) → IsAtomOf e s v → units ≡ units_of v + 1 → Gives e s v units
gives_atom e s v units h is around k = costs_as
    (ap (λ (p : Piece). p s k) (eval_is around e) ∙ by_form around (out-Expr e) s k h.atom ∙ ap (λ (r : Run). pay 1 r) (h.value around.access (sized k)))
    refl
    (record { payments = 1 ∷ units_of v ∷ []; all = omega (arith, is); same = refl })
