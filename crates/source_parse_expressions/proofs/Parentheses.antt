-- What items in parentheses stand for.
use Rattle.std.proofs.Common.{◌≡◌, ℕ, suc, Bool, true, false, List, [], ◌∷◌, ◌++◌, length, refl, arith, length-append}
use Rattle.py_syntax.specs.declared.expr.Expr.{Expr}
use Rattle.py_syntax.specs.declared.expr.Expr.TheVariants as tree
use Rattle.py_syntax.specs.Expressions.{other}
use Rattle.source_spec_lines.specs.Expressions.{parenthesised_by}

pub open_tuple : (es : List Expr) → parenthesised_by es true ≡ other (tree.Tuple es)
open_tuple [] = refl
open_tuple (e ∷ []) = refl
open_tuple (e ∷ f ∷ es) = refl

pub not_one : (es : List Expr) (o : Bool) → ¬ (length es ≡ 1) → parenthesised_by es o ≡ other (tree.Tuple es)
not_one [] o h = refl
not_one (e ∷ []) o h = absurd (h (omega arith))
not_one (e ∷ f ∷ es) o h = refl

pub one_alone : (es : List Expr) (e : Expr) → length (es ++ e ∷ []) ≡ 1 → parenthesised_by (es ++ e ∷ []) false ≡ other e
one_alone [] e h = refl
one_alone (f ∷ es) e h = absurd (omega (arith, h, length-append es (e ∷ [])))
