-- The grammar of expressions (Language Reference chapter 6, a subset), a constructor for each production.
--
--   expr    := and { "or" and }           and  := not { "and" not }
--   not     := "not" not | cmp            cmp  := sum [ cmpop sum ]
--   cmpop   := "==" | "!=" | "<" | "<=" | ">" | ">=" | "in" | "not" "in" | "is" | "is" "not"
--   sum     := term { ("+" | "-") term }  term := unary { ("*" | "//" | "%") unary }
--   unary   := "-" unary | primary
--   primary := atom { "." NAME | "(" items ")" | "[" expr "]" }
--   atom    := NAME | INT | STR | "None" | "True" | "False" | "(" expr ")" | "(" ")" | "(" expr "," items ")" | "["
--   items "]"
--   items   := [ expr { "," expr } [ "," ] ]
--
-- `room` is how many levels may still be opened. An opening bracket, a prefix `not` and
-- a unary `-` open one each, which stays open to the end of the bracket or operand.
use Rattle.std.specs.Prelude.{ℕ, suc, Bool, true, false, ℤ, List, [], ◌∷◌, ◌++◌}
use Rattle.py_syntax.specs.declared.lexeme.Lexeme.{Lexeme}
use Rattle.py_syntax.specs.declared.lexeme.Lexeme.TheVariants as token
use Rattle.py_syntax.specs.declared.expr.Expr.{Expr}
use Rattle.py_syntax.specs.declared.expr.Expr.TheVariants as tree
use Rattle.py_syntax.specs.declared.expr.BinaryOp.TheVariants as op
use Rattle.py_syntax.specs.declared.expr.Comparison.{Comparison}
use Rattle.py_syntax.specs.declared.expr.Comparison.TheVariants as comparing
use Rattle.py_syntax.specs.declared.expr.Level.{Level}
use Rattle.py_syntax.specs.declared.expr.Level.TheVariants.{Disjunction, Conjunction, Sum, Term}
use Rattle.py_syntax.specs.declared.expr.Spelled.{Spelled}

-- a tree that is spelled as a target: target := NAME | primary "." NAME | primary "[" expr "]"
abbrev pub target : Expr → Spelled
target e = record { tree = e; is_target = true }

-- a tree that is spelled as no target: nothing is assigned to it, and it is not deleted
abbrev pub other : Expr → Spelled
other e = record { tree = e; is_target = false }

-- the operators of each level, with what they make of their operands
pub data IsOperator : Level → Lexeme → (Expr → Expr → Expr) → Type 0 where
  disjunction : IsOperator Disjunction token.Or (λ a b. tree.Or a b)
  conjunction : IsOperator Conjunction token.And (λ a b. tree.And a b)
  add : IsOperator Sum token.Plus (λ a b. tree.Binary op.Add a b)
  subtract : IsOperator Sum token.Minus (λ a b. tree.Binary op.Sub a b)
  multiply : IsOperator Term token.Star (λ a b. tree.Binary op.Mul a b)
  divide : IsOperator Term token.SlashSlash (λ a b. tree.Binary op.FloorDiv a b)
  modulo : IsOperator Term token.Percent (λ a b. tree.Binary op.Mod a b)

-- cmpop, with the comparison that it spells (Language Reference 6.10)
pub data IsComparator : List Lexeme → Comparison → Type 0 where
  equal : IsComparator (token.EqEq ∷ []) comparing.Eq
  unequal : IsComparator (token.NotEq ∷ []) comparing.Ne
  less : IsComparator (token.Less ∷ []) comparing.Lt
  less_equal : IsComparator (token.LessEq ∷ []) comparing.Le
  greater : IsComparator (token.Greater ∷ []) comparing.Gt
  greater_equal : IsComparator (token.GreaterEq ∷ []) comparing.Ge
  inside : IsComparator (token.In ∷ []) comparing.In
  not_inside : IsComparator (token.Not ∷ token.In ∷ []) comparing.NotIn
  same : IsComparator (token.Is ∷ []) comparing.Is
  not_same : IsComparator (token.Is ∷ token.Not ∷ []) comparing.IsNot

mutual
  -- operands with operators of one level between, grouped to the left: expr, and, sum and term
  pub data IsChain : Level → ℕ → List Lexeme → Spelled → Type 0 where
    alone : {level : Level} {room : ℕ} {ts : List Lexeme} {e : Spelled} → IsOperand level room ts e → IsChain level room ts e
    joined : {level : Level} {room : ℕ} {xs ys : List Lexeme} {t : Lexeme} {f : Expr → Expr → Expr} {a b : Spelled} → IsChain level room xs a → IsOperator level t f → IsOperand level room ys b → IsChain level room (xs ++ t ∷ ys) (other (f a.tree b.tree))

  -- the operands of each level
  pub data IsOperand : Level → ℕ → List Lexeme → Spelled → Type 0 where
    of_or : {room : ℕ} {ts : List Lexeme} {e : Spelled} → IsChain Conjunction room ts e → IsOperand Disjunction room ts e
    of_and : {room : ℕ} {ts : List Lexeme} {e : Spelled} → IsInversion room ts e → IsOperand Conjunction room ts e
    of_sum : {room : ℕ} {ts : List Lexeme} {e : Spelled} → IsChain Term room ts e → IsOperand Sum room ts e
    of_term : {room : ℕ} {ts : List Lexeme} {e : Spelled} → IsFactor room ts e → IsOperand Term room ts e

  -- not := "not" not | cmp
  pub data IsInversion : ℕ → List Lexeme → Spelled → Type 0 where
    inverted : {room : ℕ} {ts : List Lexeme} {e : Spelled} → IsInversion room ts e → IsInversion (suc room) (token.Not ∷ ts) (other (tree.Not e.tree))
    comparison : {room : ℕ} {ts : List Lexeme} {e : Spelled} → IsComparison room ts e → IsInversion room ts e

  -- cmp := sum [ cmpop sum ]
  pub data IsComparison : ℕ → List Lexeme → Spelled → Type 0 where
    sum : {room : ℕ} {ts : List Lexeme} {e : Spelled} → IsChain Sum room ts e → IsComparison room ts e
    compared : {room : ℕ} {xs os ys : List Lexeme} {c : Comparison} {a b : Spelled} → IsChain Sum room xs a → IsComparator os c → IsChain Sum room ys b → IsComparison room (xs ++ (os ++ ys)) (other (tree.Compare c a.tree b.tree))

  -- unary := "-" unary | primary
  pub data IsFactor : ℕ → List Lexeme → Spelled → Type 0 where
    negative : {room : ℕ} {ts : List Lexeme} {e : Spelled} → IsFactor room ts e → IsFactor (suc room) (token.Minus ∷ ts) (other (tree.Negative e.tree))
    primary : {room : ℕ} {ts : List Lexeme} {e : Spelled} → IsPrimary room ts e → IsFactor room ts e

  -- atoms, and what may follow them
  pub data IsPrimary : ℕ → List Lexeme → Spelled → Type 0 where
    name : {room : ℕ} (n : List ℕ) → IsPrimary room (token.Name n ∷ []) (target (tree.Name n))
    number : {room : ℕ} (n : ℤ) → IsPrimary room (token.Number n ∷ []) (other (tree.Number n))
    string : {room : ℕ} (s : List ℕ) → IsPrimary room (token.Str s ∷ []) (other (tree.Str s))
    none : {room : ℕ} → IsPrimary room (token.None ∷ []) (other tree.Nothing)
    yes : {room : ℕ} → IsPrimary room (token.True ∷ []) (other tree.True)
    no : {room : ℕ} → IsPrimary room (token.False ∷ []) (other tree.False)
    parens : {room : ℕ} {ts : List Lexeme} {e : Spelled} → IsChain Disjunction room ts e → IsPrimary (suc room) (token.OpenParen ∷ (ts ++ token.CloseParen ∷ [])) (other e.tree)
    empty_tuple : {room : ℕ} → IsPrimary (suc room) (token.OpenParen ∷ token.CloseParen ∷ []) (other (tree.Tuple []))
    tuple : {room : ℕ} {ts us : List Lexeme} {e : Spelled} {es : List Expr} {is_open : Bool} → IsChain Disjunction room ts e → IsItems room us es is_open → IsPrimary (suc room) (token.OpenParen ∷ ((ts ++ token.Comma ∷ us) ++ token.CloseParen ∷ [])) (other (tree.Tuple (e.tree ∷ es)))
    display : {room : ℕ} {ts : List Lexeme} {es : List Expr} {is_open : Bool} → IsItems room ts es is_open → IsPrimary (suc room) (token.OpenBracket ∷ (ts ++ token.CloseBracket ∷ [])) (other (tree.List es))
    attribute : {room : ℕ} {ts : List Lexeme} {e : Spelled} (n : List ℕ) → IsPrimary room ts e → IsPrimary room (ts ++ token.Dot ∷ token.Name n ∷ []) (target (tree.Attribute e.tree n))
    call : {room : ℕ} {ts us : List Lexeme} {e : Spelled} {es : List Expr} {is_open : Bool} → IsPrimary (suc room) ts e → IsItems room us es is_open → IsPrimary (suc room) (ts ++ token.OpenParen ∷ (us ++ token.CloseParen ∷ [])) (other (tree.Call e.tree es))
    subscript : {room : ℕ} {ts us : List Lexeme} {e x : Spelled} → IsPrimary (suc room) ts e → IsChain Disjunction room us x → IsPrimary (suc room) (ts ++ token.OpenBracket ∷ (us ++ token.CloseBracket ∷ [])) (target (tree.Subscript e.tree x.tree))

  -- items, with whether another one may follow: there is none yet, or a comma came last
  pub data IsItems : ℕ → List Lexeme → List Expr → Bool → Type 0 where
    no_items : {room : ℕ} → IsItems room [] [] true
    last_item : {room : ℕ} {ts : List Lexeme} {e : Spelled} → IsChain Disjunction room ts e → IsItems room ts (e.tree ∷ []) false
    next_item : {room : ℕ} {ts us : List Lexeme} {e : Spelled} {es : List Expr} {is_open : Bool} → IsChain Disjunction room ts e → IsItems room us es is_open → IsItems room (ts ++ token.Comma ∷ us) (e.tree ∷ es) is_open

-- expr := and { "or" and }
abbrev pub IsExpr : ℕ → List Lexeme → Spelled → Type 0
IsExpr = IsChain Disjunction
