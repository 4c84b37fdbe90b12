-- What reading promises of an expression, in terms of the grammar.
use Rattle.std.proofs.Common.{◌≡◌, ℕ, suc, ◌<◌, List, [], ◌∷◌, ◌++◌, Option, Some, None, Result, Ok, Err, refl, sym, ap, subst, ◌∙◌, append-nil, arith}
use Rattle.std.specs.Borrow.{Bor}
use Rattle.source_combinators.specs.declared.fault.ReadError.{ReadError}
use Rattle.source_combinators.specs.Reading.{Read, given, head_of}
use Rattle.source_combinators.specs.Outcome.{GivesAt}
use Rattle.source_combinators.proofs.Theorem.{IsReader}
use Rattle.py_syntax.specs.declared.lexeme.Lexeme.{Lexeme}
use Rattle.py_syntax.specs.declared.expr.Spelled.{Spelled}
use Rattle.py_syntax.specs.Expressions.{IsExpr}
use Rattle.source_spec_lines.specs.Expressions.{form, Whole, strength, expr}
use Rattle.source_spec_lines.proofs.ExpressionRight.{right_form}
use Rattle.source_spec_lines.proofs.ExpressionComplete.{complete_expr}
use Rattle.source_spec_lines.proofs.ExpressionAgrees.{agree_form}

nothing_binds : strength (head_of []) < 1
unfolding strength
nothing_binds = omega arith

whole_read : (room : ℕ) (ts : List Lexeme) (e : Spelled) → IsExpr room ts e → form room Whole ts ≡ given e []
whole_read room ts e h = ap (form room Whole) (sym (append-nil ts)) ∙ complete_expr h [] nothing_binds

pub expr_reader : IsReader expr IsExpr
expr_reader = record {
  right = λ room ts. right_form room Whole ts;
  complete = whole_read;
  agrees = λ room ts. agree_form room Whole ts;
}

pub front_read : (room : ℕ) (ts : List Lexeme) (r : Result (Spelled × Bor (List Lexeme)) ReadError) → GivesAt (λ x. x) r (form room Whole ts) → (front rest : List Lexeme) (value : Spelled) → ts ≡ front ++ rest → IsExpr room front value → strength (head_of rest) < 1 → GivesAt (λ x. x) r (given value rest)
front_read room ts r h front rest value p s q = subst (λ (k : Read Lexeme Spelled). GivesAt (λ x. x) r k) (ap (form room Whole) p ∙ complete_expr s rest q) h
