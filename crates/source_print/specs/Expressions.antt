-- How an expression is printed: as lexemes, with a parenthesis only where the grammar needs one.
--
-- A form binds the stronger the later the grammar comes to it: 1 `or`, 2 `and`, 3 `not`, 4 a comparison, 5 `+` and `-`,
-- 6 `*`, `//` and `%`, 7 the unary `-`, 8 every other form.
use Rattle.std.specs.Prelude.{ℕ, ◌+◌, nat_lt, if◌then◌else◌, List, [], ◌∷◌, ◌++◌, flat_map}
use Rattle.py_syntax.specs.declared.lexeme.Lexeme.{Lexeme}
use Rattle.py_syntax.specs.declared.lexeme.Lexeme.TheVariants as token
use Rattle.py_syntax.specs.declared.expr.Expr.{Expr}
use Rattle.py_syntax.specs.declared.expr.Expr.TheOpen.{Expr-F}
use Rattle.py_syntax.specs.declared.expr.Expr.TheFolds.{fold-Expr}
use Rattle.py_syntax.specs.declared.expr.BinaryOp.{BinaryOp}
use Rattle.py_syntax.specs.declared.expr.BinaryOp.TheVariants as op
use Rattle.py_syntax.specs.declared.expr.Comparison.{Comparison}
use Rattle.py_syntax.specs.declared.expr.Comparison.TheVariants as comparing

-- the lexemes of an expression, and how strongly its outermost form binds
pub record Printed : Type 0 where
  pub strength : ℕ
  pub tokens : List Lexeme

-- items with a separator between
abbrev pub separated : Lexeme → List (List Lexeme) → List Lexeme
separated sep [] = []
separated sep (first ∷ others) = first ++ flat_map (λ ts. sep ∷ ts) others

-- between an opening and a closing bracket
abbrev pub enclosed : Lexeme → List Lexeme → Lexeme → List Lexeme
enclosed opening ts closing = opening ∷ (ts ++ closing ∷ [])

-- where only what binds so strongly may stand, anything else stands in parentheses
abbrev pub operand : ℕ → Printed → List Lexeme
operand least p = if nat_lt p.strength least then enclosed token.OpenParen p.tokens token.CloseParen else p.tokens

-- operands that group to the left
abbrev pub grouped : ℕ → Lexeme → Printed → Printed → Printed
grouped n sign a b = record { strength = n; tokens = operand n a ++ sign ∷ operand (n + 1) b }

-- a sign before its operand
abbrev pub prefixed : ℕ → Lexeme → Printed → Printed
prefixed n sign a = record { strength = n; tokens = sign ∷ operand n a }

-- what needs no parentheses anywhere
abbrev pub closed : List Lexeme → Printed
closed ts = record { strength = 8; tokens = ts }

-- how a comparison is spelled (Language Reference 6.10): `not in` and `is not` are two lexemes each
abbrev pub comparator : Comparison → List Lexeme
comparator comparing.Eq = token.EqEq ∷ []
comparator comparing.Ne = token.NotEq ∷ []
comparator comparing.Lt = token.Less ∷ []
comparator comparing.Le = token.LessEq ∷ []
comparator comparing.Gt = token.Greater ∷ []
comparator comparing.Ge = token.GreaterEq ∷ []
comparator comparing.In = token.In ∷ []
comparator comparing.NotIn = token.Not ∷ token.In ∷ []
comparator comparing.Is = token.Is ∷ []
comparator comparing.IsNot = token.Is ∷ token.Not ∷ []

-- what is compared are sums, since chains are left out: all that binds less, a comparison too, stands in parentheses
abbrev pub compared : Comparison → Printed → Printed → Printed
compared c a b = record { strength = 4; tokens = operand 5 a ++ (comparator c ++ operand 5 b) }

-- `*`, `//` and `%` bind more strongly than `+` and `-` (Language Reference 6.17)
abbrev pub op_strength : BinaryOp → ℕ
op_strength op.Add = 5
op_strength op.Sub = 5
op_strength op.Mul = 6
op_strength op.FloorDiv = 6
op_strength op.Mod = 6

-- the sign of each operator of two operands (Language Reference 6.7)
abbrev pub op_sign : BinaryOp → Lexeme
op_sign op.Add = token.Plus
op_sign op.Sub = token.Minus
op_sign op.Mul = token.Star
op_sign op.FloorDiv = token.SlashSlash
op_sign op.Mod = token.Percent

-- each of these operators groups to the left (Language Reference 6.17): `a - (b - c)` keeps its parentheses
abbrev pub binary : BinaryOp → Printed → Printed → Printed
binary o a b = grouped (op_strength o) (op_sign o) a b

-- expressions with commas between: none needs parentheses, and none has a comma behind the last
abbrev pub items : List Printed → List Lexeme
items [] = []
items (first ∷ others) = first.tokens ++ flat_map (λ p. token.Comma ∷ p.tokens) others

-- a tuple of one item has a comma behind it (Language Reference 6.2.3)
abbrev pub tuple_items : List Printed → List Lexeme
tuple_items [] = []
tuple_items (first ∷ others) = first.tokens ++ token.Comma ∷ items others

-- one layer, with what is printed of each part in its place
abbrev pub printed_at : Expr-F Printed → Printed
printed_at (Expr-F.Name n) = closed (token.Name n ∷ [])
printed_at (Expr-F.Number n) = closed (token.Number n ∷ [])
printed_at (Expr-F.Str s) = closed (token.Str s ∷ [])
printed_at Expr-F.Nothing = closed (token.None ∷ [])
printed_at Expr-F.True = closed (token.True ∷ [])
printed_at Expr-F.False = closed (token.False ∷ [])
printed_at (Expr-F.Tuple ps) = closed (enclosed token.OpenParen (tuple_items ps) token.CloseParen)
printed_at (Expr-F.List ps) = closed (enclosed token.OpenBracket (items ps) token.CloseBracket)
printed_at (Expr-F.Attribute p n) = closed (operand 8 p ++ token.Dot ∷ token.Name n ∷ [])
printed_at (Expr-F.Call p ps) = closed (operand 8 p ++ enclosed token.OpenParen (items ps) token.CloseParen)
printed_at (Expr-F.Subscript p x) = closed (operand 8 p ++ enclosed token.OpenBracket x.tokens token.CloseBracket)
printed_at (Expr-F.Negative p) = prefixed 7 token.Minus p
printed_at (Expr-F.Binary o a b) = binary o a b
printed_at (Expr-F.Compare c a b) = compared c a b
printed_at (Expr-F.Not p) = prefixed 3 token.Not p
printed_at (Expr-F.And a b) = grouped 2 token.And a b
printed_at (Expr-F.Or a b) = grouped 1 token.Or a b

-- a whole expression, each part printed before the form that it stands in
abbrev pub print_of : Expr → Printed
print_of = fold-Expr Printed printed_at

-- where any expression may stand: it needs no parentheses around it
abbrev pub expr_tokens : Expr → List Lexeme
expr_tokens e = (print_of e).tokens
