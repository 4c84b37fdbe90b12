-- With one more level the same line is read, unless a token was too deep.
use Rattle.std.proofs.Common.{◌≡◌, ℕ, zero, suc, ◌&&◌, not, Bool, true, false, List, [], ◌∷◌, Option, Some, None, Result, Ok, Err, refl}
use Rattle.std.specs.Prelude.{if◌then◌else◌}
use Rattle.source_combinators.specs.declared.fault.Refusal.TheVariants.{TooDeep, Syntax}
use Rattle.source_combinators.specs.declared.fault.Fault.{Fault}
use Rattle.source_combinators.specs.Reading.{Read, ◌>>=◌, given, refused, head_of}
use Rattle.source_combinators.specs.Separated.{separated, listed}
use Rattle.source_combinators.proofs.Agrees.{Agrees, AllAgree, same, agree}
use Rattle.source_combinators.proofs.Listed.{agree_listed}
use Rattle.py_syntax.specs.declared.lexeme.Lexeme.{Lexeme}
use Rattle.py_syntax.specs.declared.lexeme.Lexeme.TheVariants as token
use Rattle.py_syntax.specs.declared.expr.Expr.{Expr}
use Rattle.py_syntax.specs.declared.expr.BinaryOp.{BinaryOp}
use Rattle.py_syntax.specs.declared.expr.Spelled.{Spelled}
use Rattle.py_syntax.specs.declared.stmt.Stmt.{Stmt}
use Rattle.py_syntax.specs.declared.stmt.Stmt.TheVariants as tree
use Rattle.py_syntax.specs.declared.context.Context.{Context}
use Rattle.source_spec_lines.specs.Expressions.{starts, primary, inner_of, expr, form, Whole, Inner}
use Rattle.source_spec_lines.proofs.ExpressionAgrees.{agree_form, agree_primary, agree_inner, no_level, AgreesInner}
use Rattle.source_spec_lines.specs.Lines.{names_in_parens, plain_names, names, source_import, imported_from, imported, bare, augmented_by, assigned_by, after_expr, expr_first, deleted_by, deleted, some_value, value, returned, raised, may_return, simple, semicolon, goes_on, line}

agree_expr : (room : ℕ) → AllAgree (expr room) (expr (suc room))
agree_expr room ts = agree_form room Whole ts

agree_inners : (room : ℕ) → AgreesInner (inner_of room) (inner_of (suc room))
agree_inners zero = no_level (inner_of 1)
agree_inners (suc room) = agree_inner room (agree_form room)

agree_names : (c : Context) (room : ℕ) → AllAgree (names c room) (names c (suc room))
unfolding names
agree_names c room (token.Star ∷ ts) = same (if c.in_function then refused (token.Star ∷ ts) else given _ ts)
agree_names c zero (token.OpenParen ∷ ts) = λ k. absurd (k refl)
agree_names c (suc room) (token.OpenParen ∷ ts) = same (names_in_parens ts)
agree_names c zero [] = same (plain_names [])
agree_names c (suc room) [] = same (plain_names [])
agree_names c zero (t ∷ ts) = same (plain_names (t ∷ ts))
agree_names c (suc room) (t ∷ ts) = same (plain_names (t ∷ ts))

agree_assigned : (room : ℕ) (b : Bool) (e : Expr) → AllAgree (assigned_by room b e) (assigned_by (suc room) b e)
unfolding assigned_by
agree_assigned room false e ts = λ k. refl
agree_assigned room true e ts = agree (expr room ts) (expr (suc room) ts) _ _ (agree_expr room ts) (λ x. refl)

agree_augmented : (room : ℕ) (n : Option (List ℕ)) (o : BinaryOp) (t : Lexeme) → AllAgree (augmented_by room n o t) (augmented_by (suc room) n o t)
unfolding augmented_by
agree_augmented room None o t ts = λ k. refl
agree_augmented room (Some n) o t ts = agree (expr room ts) (expr (suc room) ts) _ _ (agree_expr room ts) (λ x. refl)

agree_after : (room : ℕ) (e : Spelled) → AllAgree (after_expr room e) (after_expr (suc room) e)
unfolding after_expr
agree_after room e [] = refl
agree_after room e (token.Assign ∷ ts) = agree_assigned room e.is_target e.tree ts
agree_after room e (token.PlusEq ∷ ts) = agree_augmented room (bare e) _ token.PlusEq ts
agree_after room e (token.MinusEq ∷ ts) = agree_augmented room (bare e) _ token.MinusEq ts
agree_after room e (token.StarEq ∷ ts) = agree_augmented room (bare e) _ token.StarEq ts
agree_after room e (token.SlashSlashEq ∷ ts) = agree_augmented room (bare e) _ token.SlashSlashEq ts
agree_after room e (token.PercentEq ∷ ts) = agree_augmented room (bare e) _ token.PercentEq ts
agree_after room e (t ∷ ts) = refl

agree_expr_first : (room : ℕ) → AllAgree (expr_first room) (expr_first (suc room))
unfolding expr_first
agree_expr_first room ts = agree (expr room ts) (expr (suc room) ts) _ _ (agree_expr room ts) (λ x. agree_after room x.0 x.1)

agree_deleted : (room : ℕ) → AllAgree (deleted room) (deleted (suc room))
unfolding deleted
agree_deleted room ts = agree (primary (inner_of room) ts) (primary (inner_of (suc room)) ts) _ _ (agree_primary (inner_of room) (inner_of (suc room)) (agree_inners room) ts) (λ e. same (deleted_by e.0.is_target e.0.tree e.1))

agree_if : {A : Type 0} (b : Bool) (q r s : Read Lexeme A) → Agrees q r → Agrees (if b then q else s) (if b then r else s)
agree_if true q r s h = h
agree_if false q r s h = same s

agree_value : (room : ℕ) → AllAgree (value room) (value (suc room))
unfolding value some_value
agree_value room ts = agree_if (starts (head_of ts)) _ _ _ (agree (expr room ts) (expr (suc room) ts) _ _ (agree_expr room ts) (λ x. refl))

agree_returned : (room : ℕ) → AllAgree (returned room) (returned (suc room))
unfolding returned
agree_returned room ts = agree (value room ts) (value (suc room) ts) _ _ (agree_value room ts) (λ x. refl)

agree_raised : (room : ℕ) → AllAgree (raised room) (raised (suc room))
unfolding raised
agree_raised room ts = agree (value room ts) (value (suc room) ts) _ _ (agree_value room ts) (λ x. refl)

agree_from : (c : Context) (room : ℕ) → AllAgree (imported_from c room) (imported_from c (suc room))
unfolding imported_from
agree_from c room ts = agree (source_import ts) (source_import ts) _ _ (same (source_import ts)) (λ s. agree (names c room s.1) (names c (suc room) s.1) _ _ (agree_names c room s.1) (λ n. refl))

pub agree_simple : (c : Context) (room : ℕ) → AllAgree (simple c room) (simple c (suc room))
unfolding simple
agree_simple c room [] = agree_expr_first room []
agree_simple c room (token.Del ∷ ts) = agree_deleted room ts
agree_simple c room (token.Pass ∷ ts) = refl
agree_simple c room (token.Break ∷ ts) = same (if c.in_loop then given tree.Break ts else refused (token.Break ∷ ts))
agree_simple c room (token.Continue ∷ ts) = same (if c.in_loop then given tree.Continue ts else refused (token.Continue ∷ ts))
agree_simple c room (token.Return ∷ ts) = agree_if (may_return c) (returned room ts) (returned (suc room) ts) (refused (token.Return ∷ ts)) (agree_returned room ts)
agree_simple c room (token.Raise ∷ ts) = agree_raised room ts
agree_simple c room (token.Import ∷ ts) = same (imported ts)
agree_simple c room (token.From ∷ ts) = agree_from c room ts
agree_simple c room (t ∷ ts) = agree_expr_first room (t ∷ ts)

pub agree_line : (c : Context) (room : ℕ) → AllAgree (line c room) (line c (suc room))
unfolding line
agree_line c room ts = agree (listed goes_on (simple c room) semicolon ts) (listed goes_on (simple c (suc room)) semicolon ts) _ _ (agree_listed goes_on (simple c room) (simple c (suc room)) semicolon (agree_simple c room) ts) (λ s. refl)
