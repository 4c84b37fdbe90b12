-- The forms that open a level, where one is left.
use Rattle.std.proofs.Common.{◌≡◌, ℕ, zero, suc, ◌-◌, List, [], ◌∷◌, Ok, Err, refl, sym, ◌∙◌, arith}
use Rattle.source_combinators.specs.declared.fault.Fault.{Fault}
use Rattle.source_combinators.specs.Reading.{Read, ◌>>=◌, given}
use Rattle.py_syntax.specs.declared.lexeme.Lexeme.{Lexeme}
use Rattle.py_syntax.specs.declared.lexeme.Lexeme.TheVariants as token
use Rattle.py_syntax.specs.declared.expr.Expr.TheVariants as tree
use Rattle.py_syntax.specs.declared.expr.Spelled.{Spelled}
use Rattle.py_syntax.specs.Expressions.{other}
use Rattle.source_spec_lines.specs.Expressions.{inner_of, factor, inversion, form, form_by, Signed, Inverted}
use Rattle.source_spec_lines.proofs.ExpressionComplete.{by_inner}

negative : (room : ℕ) (ts : List Lexeme) → ¬ (room ≡ 0) → factor (inner_of room) (token.Minus ∷ ts) ≡ (factor (inner_of (room - 1)) ts >>= λ e. given (other (tree.Negative e.0.tree)) e.1)
unfolding factor
negative zero ts h = absurd (h refl)
negative (suc room) ts h = let e : suc room - 1 ≡ room = omega arith in rw (e, by_inner room Signed ts) refl

inverse : (room : ℕ) (ts : List Lexeme) → ¬ (room ≡ 0) → inversion (inner_of room) (token.Not ∷ ts) ≡ (inversion (inner_of (room - 1)) ts >>= λ e. given (other (tree.Not e.0.tree)) e.1)
unfolding inversion
inverse zero ts h = absurd (h refl)
inverse (suc room) ts h = let e : suc room - 1 ≡ room = omega arith in rw (e, by_inner room Inverted ts) refl

pub negative_read : (room : ℕ) (ts us : List Lexeme) (e : Spelled) → ¬ (room ≡ 0) → factor (inner_of (room - 1)) ts ≡ Ok (e, us) → factor (inner_of room) (token.Minus ∷ ts) ≡ Ok (other (tree.Negative e.tree), us)
negative_read room ts us e h r = negative room ts h ∙ rw r refl

pub negative_refused : (room : ℕ) (ts : List Lexeme) (fault : Fault) → ¬ (room ≡ 0) → factor (inner_of (room - 1)) ts ≡ Err fault → factor (inner_of room) (token.Minus ∷ ts) ≡ Err fault
negative_refused room ts fault h r = negative room ts h ∙ rw r refl

pub inverse_read : (room : ℕ) (ts us : List Lexeme) (e : Spelled) → ¬ (room ≡ 0) → inversion (inner_of (room - 1)) ts ≡ Ok (e, us) → inversion (inner_of room) (token.Not ∷ ts) ≡ Ok (other (tree.Not e.tree), us)
inverse_read room ts us e h r = inverse room ts h ∙ rw r refl

pub inverse_refused : (room : ℕ) (ts : List Lexeme) (fault : Fault) → ¬ (room ≡ 0) → inversion (inner_of (room - 1)) ts ≡ Err fault → inversion (inner_of room) (token.Not ∷ ts) ≡ Err fault
inverse_refused room ts fault h r = inverse room ts h ∙ rw r refl
