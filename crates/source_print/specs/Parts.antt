-- An expression from its left side on: a sum, a comparison, a call and the like begin with another expression.
use Rattle.std.specs.Prelude.{ℕ, ◌+◌, ◌≤◌, nat_lt, if◌then◌else◌, Option, Some, None, List, [], ◌∷◌, ◌++◌, map}
use Rattle.py_syntax.specs.declared.lexeme.Lexeme.{Lexeme}
use Rattle.py_syntax.specs.declared.lexeme.Lexeme.TheVariants as token
use Rattle.py_syntax.specs.declared.expr.Expr.{Expr, out-Expr, size-Expr}
use Rattle.py_syntax.specs.declared.expr.Expr.TheOpen.{Expr-F}
use Rattle.source_print.specs.Expressions.{Printed, enclosed, operand, comparator, op_strength, op_sign, items, tuple_items, print_of, expr_tokens}

-- the left side of a form, and how strongly that has to bind
abbrev pub left_at : Expr-F Expr → Option (Expr × ℕ)
left_at (Expr-F.Name n) = None
left_at (Expr-F.Number n) = None
left_at (Expr-F.Str s) = None
left_at Expr-F.Nothing = None
left_at Expr-F.True = None
left_at Expr-F.False = None
left_at (Expr-F.Tuple es) = None
left_at (Expr-F.List es) = None
left_at (Expr-F.Attribute e n) = Some (e, 8)
left_at (Expr-F.Call e es) = Some (e, 8)
left_at (Expr-F.Subscript e x) = Some (e, 8)
left_at (Expr-F.Negative e) = None
left_at (Expr-F.Binary o a b) = Some (a, op_strength o)
left_at (Expr-F.Compare c a b) = Some (a, 5)
left_at (Expr-F.Not e) = None
left_at (Expr-F.And a b) = Some (a, 2)
left_at (Expr-F.Or a b) = Some (a, 1)

-- the same of a whole expression, by its outermost form; one that begins with a lexeme of its own has no left side
abbrev pub left : Expr → Option (Expr × ℕ)
left e = left_at (out-Expr e)

-- what is printed of a form behind its left side, and all of it where it has none
abbrev pub own_at : Expr-F Expr → List Lexeme
own_at (Expr-F.Name n) = token.Name n ∷ []
own_at (Expr-F.Number n) = token.Number n ∷ []
own_at (Expr-F.Str s) = token.Str s ∷ []
own_at Expr-F.Nothing = token.None ∷ []
own_at Expr-F.True = token.True ∷ []
own_at Expr-F.False = token.False ∷ []
own_at (Expr-F.Tuple es) = enclosed token.OpenParen (tuple_items (map print_of es)) token.CloseParen
own_at (Expr-F.List es) = enclosed token.OpenBracket (items (map print_of es)) token.CloseBracket
own_at (Expr-F.Attribute e n) = token.Dot ∷ token.Name n ∷ []
own_at (Expr-F.Call e es) = enclosed token.OpenParen (items (map print_of es)) token.CloseParen
own_at (Expr-F.Subscript e x) = enclosed token.OpenBracket (expr_tokens x) token.CloseBracket
own_at (Expr-F.Negative e) = token.Minus ∷ operand 7 (print_of e)
own_at (Expr-F.Binary o a b) = op_sign o ∷ operand (op_strength o + 1) (print_of b)
own_at (Expr-F.Compare c a b) = comparator c ++ operand 5 (print_of b)
own_at (Expr-F.Not e) = token.Not ∷ operand 3 (print_of e)
own_at (Expr-F.And a b) = token.And ∷ operand 3 (print_of b)
own_at (Expr-F.Or a b) = token.Or ∷ operand 2 (print_of b)

-- the same of a whole expression, by its outermost form
abbrev pub own : Expr → List Lexeme
own e = own_at (out-Expr e)

-- a parenthesis, around what does not bind so strongly
abbrev pub parenthesis : Lexeme → ℕ → Printed → List Lexeme
parenthesis sign least p = if nat_lt p.strength least then sign ∷ [] else []

-- the parenthesis behind a left side
abbrev pub closing : Option (Expr × ℕ) → List Lexeme
closing None = []
closing (Some (e, least)) = parenthesis token.CloseParen least (print_of e)

-- what stands behind the left sides of expressions of which each is the left side of the one before it
abbrev pub behind : List Expr → List Lexeme
behind [] = []
behind (e ∷ es) = behind es ++ (closing (left e) ++ own e)

-- none of the expressions is deeper than that
abbrev pub NoDeeper : ℕ → List Expr → Type 0
NoDeeper n [] = Unit {0}
NoDeeper n (e ∷ es) = (size-Expr e ≤ n) × NoDeeper n es
