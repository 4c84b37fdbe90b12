-- What is done with lists of so many values, and what a call does with its values.
use Rattle.std.proofs.Common.{◌≡◌, refl, List, [], ◌∷◌, true, false}
use Rattle.std.proofs.lemmas.Bool.{false≢true}
use Rattle.py_value.specs.declared.value.Value.{Value}
use Rattle.py_syntax.specs.declared.expr.Expr.{Expr}
use Rattle.py_syntax.specs.declared.expr.Expr.TheOpen.{Expr-F}
use Rattle.meaning_state.specs.declared.thread.State.{State}
use Rattle.meaning_script.specs.Pieces.{Piece, Onward, with_one, with_two}
use Rattle.meaning_script.specs.Operators.{Around, calls_first}
use Rattle.step_expressions.specs.OperatorForms.{is_call, given_at, one_of, two_of, by_one, by_two}

pub one_is : (vs : List Value) (go : Value → Piece) → with_one vs go ≡ by_one (one_of vs) go
one_is [] go = refl
one_is (a ∷ []) go = refl
one_is (a ∷ b ∷ vs) go = refl

pub two_is : (vs : List Value) (go : Value → Value → Piece) → with_two vs go ≡ by_two (two_of vs) go
two_is [] go = refl
two_is (a ∷ []) go = refl
two_is (a ∷ b ∷ []) go = refl
two_is (a ∷ b ∷ c ∷ vs) go = refl

pub call_is : (around : Around) (d : Expr-F Expr) (vs : List Value) (s : State) (k : Onward) → is_call d ≡ true → calls_first around vs s k ≡ given_at around d vs s k
call_is around (Expr-F.Name x) vs s k h = absurd (false≢true h)
call_is around (Expr-F.Number n) vs s k h = absurd (false≢true h)
call_is around (Expr-F.Str text) vs s k h = absurd (false≢true h)
call_is around Expr-F.Nothing vs s k h = absurd (false≢true h)
call_is around Expr-F.True vs s k h = absurd (false≢true h)
call_is around Expr-F.False vs s k h = absurd (false≢true h)
call_is around (Expr-F.Tuple es) vs s k h = absurd (false≢true h)
call_is around (Expr-F.List es) vs s k h = absurd (false≢true h)
call_is around (Expr-F.Attribute a x) vs s k h = absurd (false≢true h)
call_is around (Expr-F.Call f es) vs s k h = refl
call_is around (Expr-F.Subscript a b) vs s k h = absurd (false≢true h)
call_is around (Expr-F.Negative a) vs s k h = absurd (false≢true h)
call_is around (Expr-F.Binary o a b) vs s k h = absurd (false≢true h)
call_is around (Expr-F.Compare c a b) vs s k h = absurd (false≢true h)
call_is around (Expr-F.Not a) vs s k h = absurd (false≢true h)
call_is around (Expr-F.And a b) vs s k h = absurd (false≢true h)
call_is around (Expr-F.Or a b) vs s k h = absurd (false≢true h)
