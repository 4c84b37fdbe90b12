-- The grammar of statements (Language Reference chapter 8, a subset), a constructor for each production.
--
--   stmt    := line NEWLINE | if | while | try | def
--   block   := line NEWLINE | NEWLINE INDENT stmt { stmt } DEDENT
--   if      := "if" expr ":" block { "elif" expr ":" block } [ "else" ":" block ]
--   while   := "while" expr ":" block
--   try     := "try" ":" block ( "finally" ":" block | handlers [ "else" ":" block ] [ "finally" ":" block ] )
--   handlers:= handler { handler } [ "except" ":" block ] | "except" ":" block
--   handler := "except" expr [ "as" NAME ] ":" block
--   def     := "def" NAME "(" [ NAME { "," NAME } [ "," ] ] ")" ":" body
--   body    := line NEWLINE | NEWLINE INDENT { "global" NAME { "," NAME } NEWLINE } stmt { stmt } DEDENT
--
-- `if`, `while`, `try` and `def` open a level each, to the end of the statement; the bracket of parameters opens none.
-- Functions are numbered in the order of their `def` tokens: a form begins with the number of its first function, and
-- comes with the number of the first one behind it.
use Rattle.std.specs.Prelude.{◌≡◌, ℕ, suc, Bool, true, false, ◌||◌, List, [], ◌∷◌, ◌++◌, Option, Some, None, nat_eq}
use Rattle.std.specs.Cmp.Lexicographic.{pointwise}
use Rattle.source_combinators.specs.Separated.{IsSeparated}
use Rattle.py_syntax.specs.declared.lexeme.Lexeme.{Lexeme}
use Rattle.py_syntax.specs.declared.lexeme.Lexeme.TheVariants as token
use Rattle.py_syntax.specs.declared.expr.Expr.{Expr}
use Rattle.py_syntax.specs.declared.expr.Spelled.{Spelled}
use Rattle.py_syntax.specs.declared.stmt.Stmt.{Stmt}
use Rattle.py_syntax.specs.declared.stmt.Stmt.TheVariants as tree
use Rattle.py_syntax.specs.declared.stmt.Branch.{Branch}
use Rattle.py_syntax.specs.declared.stmt.Handler.{Handler}
use Rattle.py_syntax.specs.declared.context.Context.{Context}
use Rattle.py_syntax.specs.Contexts.{within_loop, within_finally, within_function}
use Rattle.py_syntax.specs.Expressions.{IsExpr}
use Rattle.py_syntax.specs.Simple.{IsBound, IsLine}

-- whether the name is one of these
abbrev pub is_among : List ℕ → List (List ℕ) → Bool
is_among n [] = false
is_among n (m ∷ ms) = pointwise nat_eq n m || is_among n ms

-- Parameters behind those that are found already, with all of them, and
-- with whether another one may follow. Each differs from those before it.
pub data IsParameters : List (List ℕ) → ℕ → List Lexeme → List (List ℕ) × Bool → Type 0 where
  no_parameters : {found : List (List ℕ)} {room : ℕ} → IsParameters found room [] (found, true)
  last_parameter : {found : List (List ℕ)} {room : ℕ} (n : List ℕ) → is_among n found ≡ false → IsParameters found room (token.Name n ∷ []) (found ++ n ∷ [], false)
  next_parameter : {found : List (List ℕ)} {room : ℕ} {ts : List Lexeme} {all : List (List ℕ) × Bool} (n : List ℕ) → is_among n found ≡ false → IsParameters (found ++ n ∷ []) room ts all → IsParameters found room (token.Name n ∷ token.Comma ∷ ts) all

-- a name in a `global` line: no parameter is named so
pub data IsGlobal : List (List ℕ) → ℕ → List Lexeme → List ℕ → Type 0 where
  global : {parameters : List (List ℕ)} {room : ℕ} (n : List ℕ) → is_among n parameters ≡ false → IsGlobal parameters room (token.Name n ∷ []) n

-- { "global" NAME { "," NAME } NEWLINE }
pub data IsGlobalLines : List (List ℕ) → ℕ → List Lexeme → List (List ℕ) → Type 0 where
  no_globals : {parameters : List (List ℕ)} {room : ℕ} → IsGlobalLines parameters room [] []
  global_line : {parameters ns ms : List (List ℕ)} {room : ℕ} {ts us : List Lexeme} → IsSeparated token.Comma (IsGlobal parameters) room ts ns → IsGlobalLines parameters room us ms → IsGlobalLines parameters room (token.Global ∷ (ts ++ token.Newline ∷ us)) (ns ++ ms)

-- what a function's body spells
pub record Body : Type 0 where
  pub globals : List (List ℕ)
  pub stmts : List Stmt

-- these names in its `global` lines, and these statements behind them
abbrev pub body : List (List ℕ) → List Stmt → Body
body globals stmts = record { globals = globals; stmts = stmts }

mutual
  -- a statement, or several on a line
  pub data IsStmt : Context → ℕ → ℕ → List Lexeme → List Stmt × ℕ → Type 0 where
    on_line : {c : Context} {n room : ℕ} {ts : List Lexeme} {ss : List Stmt} → IsLine c room ts ss → IsStmt c n room (ts ++ token.Newline ∷ []) (ss, n)
    if_stmt : {c : Context} {n m k l room : ℕ} {xs ys zs : List Lexeme} {b : Branch} {bs : List Branch} {ss : List Stmt} → IsBranch c n room xs (b, m) → IsElifs c m room ys (bs, k) → IsElse c k room zs (ss, l) → IsStmt c n (suc room) (token.If ∷ (xs ++ (ys ++ zs))) (tree.If (b ∷ bs) ss ∷ [], l)
    while_stmt : {c : Context} {n m room : ℕ} {ts : List Lexeme} {b : Branch} → IsBranch (within_loop c) n room ts (b, m) → IsStmt c n (suc room) (token.While ∷ ts) (tree.While b.test b.body ∷ [], m)
    try_finally : {c : Context} {n m k room : ℕ} {xs ys : List Lexeme} {ss fs : List Stmt} → IsBlock c n room xs (ss, m) → IsBlock (within_finally c) m room ys (fs, k) → IsStmt c n (suc room) (token.Try ∷ token.Colon ∷ (xs ++ token.Finally ∷ token.Colon ∷ ys)) (tree.Try ss [] [] fs ∷ [], k)
    try_except : {c : Context} {n m k l p room : ℕ} {xs hs ys zs : List Lexeme} {ss es fs : List Stmt} {handlers : List Handler} → IsBlock c n room xs (ss, m) → IsHandlers c m room hs (handlers, k) → IsElse c k room ys (es, l) → IsFinally c l room zs (fs, p) → IsStmt c n (suc room) (token.Try ∷ token.Colon ∷ (xs ++ (hs ++ (ys ++ zs)))) (tree.Try ss handlers es fs ∷ [], p)
    def_stmt : {c : Context} {n m room : ℕ} {ts us : List Lexeme} {parameters : List (List ℕ)} {is_open : Bool} {b : Body} (name : List ℕ) → c.in_function ≡ false → IsParameters [] room ts (parameters, is_open) → IsBody parameters (suc n) room us (b, m) → IsStmt c n (suc room) (token.Def ∷ token.Name name ∷ token.OpenParen ∷ (ts ++ token.CloseParen ∷ token.Colon ∷ us)) (tree.Def (record { number = n; name = name; parameters = parameters; globals = b.globals; body = b.stmts }) ∷ [], m)

  -- stmt { stmt }
  pub data IsStmts : Context → ℕ → ℕ → List Lexeme → List Stmt × ℕ → Type 0 where
    last_stmt : {c : Context} {n room : ℕ} {ts : List Lexeme} {ss : List Stmt × ℕ} → IsStmt c n room ts ss → IsStmts c n room ts ss
    more_stmts : {c : Context} {n m k room : ℕ} {xs ys : List Lexeme} {ss rs : List Stmt} → IsStmt c n room xs (ss, m) → IsStmts c m room ys (rs, k) → IsStmts c n room (xs ++ ys) (ss ++ rs, k)

  -- block := line NEWLINE | NEWLINE INDENT stmt { stmt } DEDENT
  pub data IsBlock : Context → ℕ → ℕ → List Lexeme → List Stmt × ℕ → Type 0 where
    line_block : {c : Context} {n room : ℕ} {ts : List Lexeme} {ss : List Stmt} → IsLine c room ts ss → IsBlock c n room (ts ++ token.Newline ∷ []) (ss, n)
    indented : {c : Context} {n room : ℕ} {ts : List Lexeme} {ss : List Stmt × ℕ} → IsStmts c n room ts ss → IsBlock c n room (token.Newline ∷ token.Indent ∷ (ts ++ token.Dedent ∷ [])) ss

  -- expr ":" block
  pub data IsBranch : Context → ℕ → ℕ → List Lexeme → Branch × ℕ → Type 0 where
    branch : {c : Context} {n m room : ℕ} {xs ys : List Lexeme} {e : Spelled} {ss : List Stmt} → IsExpr room xs e → IsBlock c n room ys (ss, m) → IsBranch c n room (xs ++ token.Colon ∷ ys) (record { test = e.tree; body = ss }, m)

  -- { "elif" expr ":" block }
  pub data IsElifs : Context → ℕ → ℕ → List Lexeme → List Branch × ℕ → Type 0 where
    no_elif : {c : Context} {n room : ℕ} → IsElifs c n room [] ([], n)
    elif : {c : Context} {n m k room : ℕ} {xs ys : List Lexeme} {b : Branch} {bs : List Branch} → IsBranch c n room xs (b, m) → IsElifs c m room ys (bs, k) → IsElifs c n room (token.Elif ∷ (xs ++ ys)) (b ∷ bs, k)

  -- [ "else" ":" block ]
  pub data IsElse : Context → ℕ → ℕ → List Lexeme → List Stmt × ℕ → Type 0 where
    no_else : {c : Context} {n room : ℕ} → IsElse c n room [] ([], n)
    else_block : {c : Context} {n room : ℕ} {ts : List Lexeme} {ss : List Stmt × ℕ} → IsBlock c n room ts ss → IsElse c n room (token.Else ∷ token.Colon ∷ ts) ss

  -- [ "finally" ":" block ]
  pub data IsFinally : Context → ℕ → ℕ → List Lexeme → List Stmt × ℕ → Type 0 where
    no_finally : {c : Context} {n room : ℕ} → IsFinally c n room [] ([], n)
    finally_block : {c : Context} {n room : ℕ} {ts : List Lexeme} {ss : List Stmt × ℕ} → IsBlock (within_finally c) n room ts ss → IsFinally c n room (token.Finally ∷ token.Colon ∷ ts) ss

  -- "except" expr [ "as" NAME ] ":" block
  pub data IsHandler : Context → ℕ → ℕ → List Lexeme → Handler × ℕ → Type 0 where
    handler : {c : Context} {n m room : ℕ} {xs ys zs : List Lexeme} {e : Spelled} {as_name : Option (List ℕ)} {ss : List Stmt} → IsExpr room xs e → IsBound room ys as_name → IsBlock c n room zs (ss, m) → IsHandler c n room (token.Except ∷ (xs ++ (ys ++ token.Colon ∷ zs))) (record { kinds = Some e.tree; bound = as_name; body = ss }, m)

  -- one at least; what takes each error stands last
  pub data IsHandlers : Context → ℕ → ℕ → List Lexeme → List Handler × ℕ → Type 0 where
    last_handler : {c : Context} {n m room : ℕ} {ts : List Lexeme} {h : Handler} → IsHandler c n room ts (h, m) → IsHandlers c n room ts (h ∷ [], m)
    takes_all : {c : Context} {n m room : ℕ} {ts : List Lexeme} {ss : List Stmt} → IsBlock c n room ts (ss, m) → IsHandlers c n room (token.Except ∷ token.Colon ∷ ts) (record { kinds = None; bound = None; body = ss } ∷ [], m)
    more_handlers : {c : Context} {n m k room : ℕ} {xs ys : List Lexeme} {h : Handler} {hs : List Handler} → IsHandler c n room xs (h, m) → IsHandlers c m room ys (hs, k) → IsHandlers c n room (xs ++ ys) (h ∷ hs, k)

  -- body := line NEWLINE | NEWLINE INDENT { "global" NAME { "," NAME } NEWLINE } stmt { stmt } DEDENT
  pub data IsBody : List (List ℕ) → ℕ → ℕ → List Lexeme → Body × ℕ → Type 0 where
    line_body : {parameters : List (List ℕ)} {n room : ℕ} {ts : List Lexeme} {ss : List Stmt} → IsLine within_function room ts ss → IsBody parameters n room (ts ++ token.Newline ∷ []) (body [] ss, n)
    indented_body : {parameters globals : List (List ℕ)} {n m room : ℕ} {xs ys : List Lexeme} {ss : List Stmt} → IsGlobalLines parameters room xs globals → IsStmts within_function n room ys (ss, m) → IsBody parameters n room (token.Newline ∷ token.Indent ∷ (xs ++ (ys ++ token.Dedent ∷ []))) (body globals ss, m)
