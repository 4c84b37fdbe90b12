-- Reading expressions by descent, a definition for each function of the code.
use Rattle.std.specs.Prelude.{ℕ, zero, suc, ◌==◌, ◌&&◌, Bool, true, false, if◌then◌else◌, List, [], ◌∷◌, ◌++◌, length, Option, Some, None, Ok, Err}
use Rattle.source_combinators.specs.Reading.{Read, ◌>>=◌, given, refused, too_deep, head_of}
use Rattle.source_combinators.specs.Many.{rounds}
use Rattle.py_syntax.specs.declared.lexeme.Lexeme.{Lexeme}
use Rattle.py_syntax.specs.declared.lexeme.Lexeme.TheVariants as token
use Rattle.py_syntax.specs.declared.expr.Expr.{Expr, out-Expr}
use Rattle.py_syntax.specs.declared.expr.Expr.TheOpen.{Expr-F}
use Rattle.py_syntax.specs.declared.expr.Expr.TheVariants as tree
use Rattle.py_syntax.specs.declared.expr.BinaryOp.TheVariants as op
use Rattle.py_syntax.specs.declared.expr.Comparison.{Comparison}
use Rattle.py_syntax.specs.declared.expr.Comparison.TheVariants as comparing
use Rattle.py_syntax.specs.declared.expr.Level.{Level}
use Rattle.py_syntax.specs.declared.expr.Level.TheVariants.{Disjunction, Conjunction, Sum, Term}
use Rattle.py_syntax.specs.declared.expr.Spelled.{Spelled}
use Rattle.py_syntax.specs.declared.expr.Items.{Items}
use Rattle.py_syntax.specs.Expressions.{target, other}

-- reads an expression from the front of the tokens, with whether it is spelled as a target
abbrev pub Reader : Type 0
Reader = List Lexeme → Read Lexeme Spelled

-- where an expression is entered from a level further out
pub data Form : Type 0 where
  Whole : Form
  Inverted : Form
  Signed : Form

-- the readers of the forms one level further in, where there is a level left
abbrev pub Inner : Type 0
Inner = Option (Form → Reader)

-- whether an expression begins with the token ahead
unfoldable pub starts : Option Lexeme → Bool
starts (Some (token.Name n)) = true
starts (Some (token.Number n)) = true
starts (Some (token.Str s)) = true
starts (Some token.None) = true
starts (Some token.True) = true
starts (Some token.False) = true
starts (Some token.OpenParen) = true
starts (Some token.OpenBracket) = true
starts (Some token.Minus) = true
starts (Some token.Not) = true
starts t = false

-- how strongly the token ahead binds what stands before it; 0 where it does not go on with an expression
unfoldable pub strength : Option Lexeme → ℕ
strength (Some token.Or) = 1
strength (Some token.And) = 2
strength (Some token.EqEq) = 3
strength (Some token.NotEq) = 3
strength (Some token.Less) = 3
strength (Some token.LessEq) = 3
strength (Some token.Greater) = 3
strength (Some token.GreaterEq) = 3
strength (Some token.In) = 3
strength (Some token.Not) = 3
strength (Some token.Is) = 3
strength (Some token.Plus) = 4
strength (Some token.Minus) = 4
strength (Some token.Star) = 5
strength (Some token.SlashSlash) = 5
strength (Some token.Percent) = 5
strength (Some token.Dot) = 6
strength (Some token.OpenParen) = 6
strength (Some token.OpenBracket) = 6
strength t = 0

-- how strongly the operators of a level bind, as `strength` counts it
abbrev pub strength_of : Level → ℕ
strength_of Disjunction = 1
strength_of Conjunction = 2
strength_of Sum = 4
strength_of Term = 5

-- ---- single tokens

-- ")"; any other token is refused
unfoldable pub close_paren : List Lexeme → Read Lexeme (Unit {0})
close_paren (token.CloseParen ∷ ts) = given tt ts
close_paren ts = refused ts

-- "]"; any other token is refused
unfoldable pub close_bracket : List Lexeme → Read Lexeme (Unit {0})
close_bracket (token.CloseBracket ∷ ts) = given tt ts
close_bracket ts = refused ts

-- a comma, if there is one
unfoldable pub comma : List Lexeme → Read Lexeme Bool
comma (token.Comma ∷ ts) = given true ts
comma ts = given false ts

-- ---- items

-- one item more; another one may follow where a comma came behind it
abbrev pub with_item : List Expr → Expr → Bool → Items
with_item found e is_open = record { found = found ++ e ∷ []; is_open = is_open }

-- there is none yet, and one may follow
abbrev pub no_items : Items
no_items = record { found = []; is_open = true }

-- an item, and the comma behind it, if there is one
unfoldable pub item : Reader → Items → List Lexeme → Read Lexeme Items
item f items ts = f ts >>= λ x. comma x.1 >>= λ c. given (with_item items.found x.0.tree c.0) c.1

-- another item follows
abbrev pub begins_item : Items → Option Lexeme → Bool
begins_item items t = items.is_open && starts t

-- items := [ expr { "," expr } [ "," ] ]
unfoldable pub all_items : Reader → List Lexeme → Read Lexeme Items
all_items f ts = rounds begins_item (item f) no_items ts

-- ---- atoms

-- one item without a comma stands for itself
abbrev pub parenthesised_by : List Expr → Bool → Spelled
parenthesised_by (e ∷ []) false = other e
parenthesised_by es is_open = other (tree.Tuple es)

-- parentheses make a tuple where a comma stands in them, and of nothing (Language Reference 6.2.3)
abbrev pub parenthesised : Items → Spelled
parenthesised items = parenthesised_by items.found items.is_open

-- the rest of "(" expr ")", of "(" ")" or of "(" expr "," items ")", behind the opening parenthesis
unfoldable pub in_parens : Reader → List Lexeme → Read Lexeme Spelled
in_parens f ts = all_items f ts >>= λ a. close_paren a.1 >>= λ u. given (parenthesised a.0) u.1

-- the rest of "[" items "]", behind the opening bracket
unfoldable pub in_brackets : Reader → List Lexeme → Read Lexeme Spelled
in_brackets f ts = all_items f ts >>= λ a. close_bracket a.1 >>= λ u. given (other (tree.List a.0.found)) u.1

-- atom; an opening bracket without a level left is too deep
unfoldable pub atom : Inner → List Lexeme → Read Lexeme Spelled
atom inner (token.Name n ∷ ts) = given (target (tree.Name n)) ts
atom inner (token.Number n ∷ ts) = given (other (tree.Number n)) ts
atom inner (token.Str s ∷ ts) = given (other (tree.Str s)) ts
atom inner (token.None ∷ ts) = given (other tree.Nothing) ts
atom inner (token.True ∷ ts) = given (other tree.True) ts
atom inner (token.False ∷ ts) = given (other tree.False) ts
atom None (token.OpenParen ∷ ts) = too_deep (token.OpenParen ∷ ts)
atom (Some f) (token.OpenParen ∷ ts) = in_parens (f Whole) ts
atom None (token.OpenBracket ∷ ts) = too_deep (token.OpenBracket ∷ ts)
atom (Some f) (token.OpenBracket ∷ ts) = in_brackets (f Whole) ts
atom inner ts = refused ts

-- ---- what follows an atom

-- the NAME of "." NAME, which makes a target
unfoldable pub after_dot : Expr → List Lexeme → Read Lexeme Spelled
after_dot e (token.Name n ∷ ts) = given (target (tree.Attribute e n)) ts
after_dot e ts = refused ts

-- the rest of "(" items ")" behind what is called; a call is no target
unfoldable pub call_with : Reader → Expr → List Lexeme → Read Lexeme Spelled
call_with f e ts = all_items f ts >>= λ a. close_paren a.1 >>= λ u. given (other (tree.Call e a.0.found)) u.1

-- the rest of "[" expr "]" behind what has the index, which makes a target
unfoldable pub subscript_with : Reader → Expr → List Lexeme → Read Lexeme Spelled
subscript_with f e ts = f ts >>= λ x. close_bracket x.1 >>= λ u. given (target (tree.Subscript e x.0.tree)) u.1

-- "." NAME, "(" items ")" or "[" expr "]"; an opening bracket without a level left is too deep
unfoldable pub trailer : Inner → Spelled → List Lexeme → Read Lexeme Spelled
trailer inner e (token.Dot ∷ ts) = after_dot e.tree ts
trailer None e (token.OpenParen ∷ ts) = too_deep (token.OpenParen ∷ ts)
trailer (Some f) e (token.OpenParen ∷ ts) = call_with (f Whole) e.tree ts
trailer None e (token.OpenBracket ∷ ts) = too_deep (token.OpenBracket ∷ ts)
trailer (Some f) e (token.OpenBracket ∷ ts) = subscript_with (f Whole) e.tree ts
trailer inner e ts = refused ts

-- a dot or an opening bracket goes on with any primary
abbrev pub begins_trailer : Spelled → Option Lexeme → Bool
begins_trailer e t = strength t == 6

-- primary := atom { "." NAME | "(" items ")" | "[" expr "]" }
unfoldable pub primary : Inner → List Lexeme → Read Lexeme Spelled
primary inner ts = atom inner ts >>= λ a. rounds begins_trailer (trailer inner) a.0 a.1

-- unary := "-" unary | primary; a `-` without a level left is too deep
unfoldable pub factor : Inner → List Lexeme → Read Lexeme Spelled
factor None (token.Minus ∷ ts) = too_deep (token.Minus ∷ ts)
factor (Some f) (token.Minus ∷ ts) = f Signed ts >>= λ e. given (other (tree.Negative e.0.tree)) e.1
factor inner ts = primary inner ts

-- ---- operators between operands

-- what an operator makes of its operands
unfoldable pub join : Lexeme → Expr → Expr → Expr
join token.Or a b = tree.Or a b
join token.And a b = tree.And a b
join token.Plus a b = tree.Binary op.Add a b
join token.Minus a b = tree.Binary op.Sub a b
join token.Star a b = tree.Binary op.Mul a b
join token.SlashSlash a b = tree.Binary op.FloorDiv a b
join token.Percent a b = tree.Binary op.Mod a b
join t a b = a

-- an operator and its right operand, after the left one
unfoldable pub joins : Reader → Spelled → List Lexeme → Read Lexeme Spelled
joins operand a [] = refused []
joins operand a (t ∷ ts) = operand ts >>= λ b. given (other (join t a.tree b.0.tree)) b.1

-- an operator of this level is ahead, whatever stands before it
abbrev pub begins_join : Level → Spelled → Option Lexeme → Bool
begins_join level e t = strength t == strength_of level

-- an operand, and others as long as an operator of the level is ahead, grouped to the left
unfoldable pub chain : Level → Reader → List Lexeme → Read Lexeme Spelled
chain level operand ts = operand ts >>= λ a. rounds (begins_join level) (joins operand) a.0 a.1

-- sum := term { ( "+" | "-" ) term }
abbrev pub sums : Inner → Reader
sums inner = chain Sum (chain Term (factor inner))

-- ---- comparisons

-- the "in" of "not" "in"
unfoldable pub after_not : List Lexeme → Read Lexeme Comparison
after_not (token.In ∷ ts) = given comparing.NotIn ts
after_not ts = refused ts

-- [ "not" ] behind "is"
unfoldable pub after_is : List Lexeme → Read Lexeme Comparison
after_is (token.Not ∷ ts) = given comparing.IsNot ts
after_is ts = given comparing.Is ts

-- cmpop (Language Reference 6.10)
unfoldable pub comparator : List Lexeme → Read Lexeme Comparison
comparator (token.EqEq ∷ ts) = given comparing.Eq ts
comparator (token.NotEq ∷ ts) = given comparing.Ne ts
comparator (token.Less ∷ ts) = given comparing.Lt ts
comparator (token.LessEq ∷ ts) = given comparing.Le ts
comparator (token.Greater ∷ ts) = given comparing.Gt ts
comparator (token.GreaterEq ∷ ts) = given comparing.Ge ts
comparator (token.In ∷ ts) = given comparing.In ts
comparator (token.Not ∷ ts) = after_not ts
comparator (token.Is ∷ ts) = after_is ts
comparator ts = refused ts

-- cmpop sum, behind the left operand
unfoldable pub compare_with : Reader → Spelled → List Lexeme → Read Lexeme Spelled
compare_with operand a ts = comparator ts >>= λ c. operand c.1 >>= λ b. given (other (tree.Compare c.0 a.tree b.0.tree)) b.1

-- an operator of comparison is ahead; `not` is one here, since behind a sum it begins `not in`
abbrev pub begins_comparison : Option Lexeme → Bool
begins_comparison t = strength t == 3

-- [ cmpop sum ], behind the left operand: one comparison, and no chain
unfoldable pub compared : Reader → Spelled → List Lexeme → Read Lexeme Spelled
compared operand a ts = if begins_comparison (head_of ts) then compare_with operand a ts else given a ts

-- cmp := sum [ cmpop sum ]
unfoldable pub comparison : Reader → List Lexeme → Read Lexeme Spelled
comparison operand ts = operand ts >>= λ a. compared operand a.0 a.1

-- not := "not" not | cmp; a `not` without a level left is too deep
unfoldable pub inversion : Inner → List Lexeme → Read Lexeme Spelled
inversion None (token.Not ∷ ts) = too_deep (token.Not ∷ ts)
inversion (Some f) (token.Not ∷ ts) = f Inverted ts >>= λ e. given (other (tree.Not e.0.tree)) e.1
inversion inner ts = comparison (sums inner) ts

-- ---- the operands of each level, and the forms

-- what the operators of a level join: forms that bind more strongly than they do
abbrev pub operand : Inner → Level → Reader
operand inner Disjunction = chain Conjunction (inversion inner)
operand inner Conjunction = inversion inner
operand inner Sum = chain Term (factor inner)
operand inner Term = factor inner

-- a whole expression; behind a `not` what it inverts, and behind a unary `-` what it negates
abbrev pub form_by : Inner → Form → Reader
form_by inner Whole = chain Disjunction (operand inner Disjunction)
form_by inner Inverted = inversion inner
form_by inner Signed = factor inner

-- a form with this many levels at most
unfoldable pub form : ℕ → Form → List Lexeme → Read Lexeme Spelled
form zero f ts = form_by None f ts
form (suc room) f ts = form_by (Some (form room)) f ts

-- the forms one level further in, where so many levels may be
-- opened: they have one fewer, and without any there are none
abbrev pub inner_of : ℕ → Inner
inner_of zero = None
inner_of (suc room) = Some (form room)

-- a whole expression, with so many levels at most
abbrev pub expr : ℕ → Reader
expr room = form room Whole

-- the text of a name that stands alone
abbrev pub name_at : Expr-F Expr → Option (List ℕ)
name_at (Expr-F.Name n) = Some n
name_at _ = None

-- the same of a whole tree
abbrev pub name_of : Expr → Option (List ℕ)
name_of e = name_at (out-Expr e)
