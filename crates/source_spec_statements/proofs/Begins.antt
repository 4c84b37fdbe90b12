-- How lines and statements begin, and what may follow them.
use Rattle.std.proofs.Common.{◌≡◌, ℕ, zero, suc, Bool, true, false, List, [], ◌∷◌, ◌++◌, Option, Some, None, refl, ap, ◌∙◌, append_assoc}
use Rattle.source_combinators.specs.Reading.{given, head_of}
use Rattle.source_combinators.specs.Separated.{IsListed, single, sep_last, several}
use Rattle.py_syntax.specs.declared.lexeme.Lexeme.{Lexeme}
use Rattle.py_syntax.specs.declared.lexeme.Lexeme.TheVariants as token
use Rattle.py_syntax.specs.declared.stmt.Stmt.{Stmt}
use Rattle.py_syntax.specs.declared.stmt.Branch.{Branch}
use Rattle.py_syntax.specs.declared.context.Context.{Context}
use Rattle.py_syntax.specs.Simple as simple
use Rattle.py_syntax.specs.Simple.{IsSimple, IsLine}
use Rattle.py_syntax.specs.Statements as grammar
use Rattle.py_syntax.specs.Statements.{IsStmt, IsStmts}
use Rattle.source_spec_lines.specs.Expressions.{starts}
use Rattle.source_spec_lines.proofs.ExpressionFamilies.{chain_starts}
use Rattle.source_spec_lines.proofs.Targets.{expr_of}
use Rattle.source_spec_statements.specs.Reading.{Stmts, Reader, stmt_ahead, line_block, block, elif_ahead, else_part, finally_part, except_ahead, global_ahead, function_body, stmt}

-- none of the tokens that begin, go on with or end a compound statement
unfoldable pub begins_line : Option Lexeme → Bool
begins_line (Some token.Newline) = false
begins_line (Some token.Indent) = false
begins_line (Some token.Dedent) = false
begins_line (Some token.End) = false
begins_line (Some token.If) = false
begins_line (Some token.Elif) = false
begins_line (Some token.Else) = false
begins_line (Some token.While) = false
begins_line (Some token.Try) = false
begins_line (Some token.Except) = false
begins_line (Some token.Finally) = false
begins_line (Some token.Def) = false
begins_line (Some token.Global) = false
begins_line t = true

-- no token that goes on with a compound statement
unfoldable pub ends_stmt : Option Lexeme → Bool
ends_stmt (Some token.Elif) = false
ends_stmt (Some token.Else) = false
ends_stmt (Some token.Except) = false
ends_stmt (Some token.Finally) = false
ends_stmt t = true

start_begins : (t : Option Lexeme) → starts t ≡ true → begins_line t ≡ true
unfolding starts begins_line
start_begins (Some token.Newline) e = absurd cc
start_begins (Some token.Indent) e = absurd cc
start_begins (Some token.Dedent) e = absurd cc
start_begins (Some token.End) e = absurd cc
start_begins (Some token.If) e = absurd cc
start_begins (Some token.Elif) e = absurd cc
start_begins (Some token.Else) e = absurd cc
start_begins (Some token.While) e = absurd cc
start_begins (Some token.Try) e = absurd cc
start_begins (Some token.Except) e = absurd cc
start_begins (Some token.Finally) e = absurd cc
start_begins (Some token.Def) e = absurd cc
start_begins (Some token.Global) e = absurd cc
start_begins t e = refl

begun : (P : Option Lexeme → Bool) (xs ys rest : List Lexeme) → ((more : List Lexeme) → P (head_of (xs ++ more)) ≡ true) → P (head_of ((xs ++ ys) ++ rest)) ≡ true
begun P xs ys rest h = ap (λ (l : List Lexeme). P (head_of l)) (append_assoc xs ys rest) ∙ h (ys ++ rest)

simple_begins : (c : Context) (room : ℕ) (ts : List Lexeme) (s : Stmt) → IsSimple c room ts s → (rest : List Lexeme) → begins_line (head_of (ts ++ rest)) ≡ true
unfolding begins_line
simple_begins c room ts s (simple.evaluate h) rest = start_begins (head_of (ts ++ rest)) (chain_starts h rest)
simple_begins c room ts s (simple.assign {ts = xs} {us = ys} h t k) rest = begun begins_line xs (token.Assign ∷ ys) rest (λ more. start_begins (head_of (xs ++ more)) (chain_starts (expr_of h) more))
simple_begins c room ts s (simple.augment n a k) rest = refl
simple_begins c room ts s (simple.delete h t) rest = refl
simple_begins c room ts s simple.pass rest = refl
simple_begins c room ts s (simple.break h) rest = refl
simple_begins c room ts s (simple.continue h) rest = refl
simple_begins c room ts s (simple.return_none f g) rest = refl
simple_begins c room ts s (simple.return_value f g h) rest = refl
simple_begins c room ts s simple.raise_again rest = refl
simple_begins c room ts s (simple.raise h) rest = refl
simple_begins c room ts s (simple.import_modules h) rest = refl
simple_begins c room ts s (simple.import_from h k) rest = refl

listed_begins : (c : Context) (room : ℕ) (ts : List Lexeme) (s : List Stmt × Bool) → IsListed token.Semicolon (IsSimple c) room ts s → (rest : List Lexeme) → begins_line (head_of (ts ++ rest)) ≡ true
listed_begins c room ts s (single {a = a} h) rest = simple_begins c room ts a h rest
listed_begins c room ts s (sep_last {ts = us} {a = a} h) rest = begun begins_line us (token.Semicolon ∷ []) rest (λ more. simple_begins c room us a h more)
listed_begins c room ts s (several {xs = xs} {ys = ys} {a = a} h k) rest = begun begins_line xs (token.Semicolon ∷ ys) rest (λ more. simple_begins c room xs a h more)

pub line_begins : (c : Context) (room : ℕ) (ts : List Lexeme) (ss : List Stmt) → IsLine c room ts ss → (rest : List Lexeme) → begins_line (head_of (ts ++ rest)) ≡ true
line_begins c room ts ss (simple.line {semicolon = b} h) rest = listed_begins c room ts (ss, b) h rest

line_ends_stmt : (t : Option Lexeme) → begins_line t ≡ true → ends_stmt t ≡ true
unfolding begins_line ends_stmt
line_ends_stmt (Some token.Elif) e = absurd cc
line_ends_stmt (Some token.Else) e = absurd cc
line_ends_stmt (Some token.Except) e = absurd cc
line_ends_stmt (Some token.Finally) e = absurd cc
line_ends_stmt t e = refl

line_ahead : (t : Option Lexeme) → begins_line t ≡ true → stmt_ahead t ≡ true
unfolding begins_line stmt_ahead
line_ahead (Some token.Dedent) e = absurd cc
line_ahead (Some token.End) e = absurd cc
line_ahead t e = refl

line_no_global : (t : Option Lexeme) (ns : List (List ℕ)) → begins_line t ≡ true → global_ahead ns t ≡ false
unfolding begins_line global_ahead
line_no_global (Some token.Global) ns e = absurd cc
line_no_global t ns e = refl

-- a statement follows, which goes on with none before it
pub record Opens (ts : List Lexeme) : Type 0 where
  pub ahead : stmt_ahead (head_of ts) ≡ true
  pub ends : ends_stmt (head_of ts) ≡ true
  pub no_global : (ns : List (List ℕ)) → global_ahead ns (head_of ts) ≡ false

line_opens : (ts : List Lexeme) → begins_line (head_of ts) ≡ true → Opens ts
line_opens ts e = record { ahead = line_ahead (head_of ts) e; ends = line_ends_stmt (head_of ts) e; no_global = λ ns. line_no_global (head_of ts) ns e }

pub stmt_opens : {c : Context} {n room : ℕ} {ts : List Lexeme} {ss : Stmts} → IsStmt c n room ts ss → (rest : List Lexeme) → Opens (ts ++ rest)
unfolding stmt_ahead ends_stmt global_ahead
stmt_opens (grammar.on_line {c = c} {room = room} {ts = us} {ss = ss} h) rest = line_opens ((us ++ token.Newline ∷ []) ++ rest) (begun begins_line us (token.Newline ∷ []) rest (λ more. line_begins c room us ss h more))
stmt_opens (grammar.if_stmt h k q) rest = record { ahead = refl; ends = refl; no_global = λ ns. refl }
stmt_opens (grammar.while_stmt h) rest = record { ahead = refl; ends = refl; no_global = λ ns. refl }
stmt_opens (grammar.try_finally h k) rest = record { ahead = refl; ends = refl; no_global = λ ns. refl }
stmt_opens (grammar.try_except h k q r) rest = record { ahead = refl; ends = refl; no_global = λ ns. refl }
stmt_opens (grammar.def_stmt m f h k) rest = record { ahead = refl; ends = refl; no_global = λ ns. refl }

opens_apart : (xs ys rest : List Lexeme) → Opens (xs ++ (ys ++ rest)) → Opens ((xs ++ ys) ++ rest)
opens_apart xs ys rest o =
    let e = ap (λ (l : List Lexeme). head_of l) (append_assoc xs ys rest) in
    record {
      ahead = ap stmt_ahead e ∙ o.ahead;
      ends = ap ends_stmt e ∙ o.ends;
      no_global = λ ns. ap (global_ahead ns) e ∙ o.no_global ns;
    }

pub stmts_open : {c : Context} {n room : ℕ} {ts : List Lexeme} {ss : Stmts} → IsStmts c n room ts ss → (rest : List Lexeme) → Opens (ts ++ rest)
stmts_open (grammar.last_stmt h) rest = stmt_opens h rest
stmts_open (grammar.more_stmts {xs = xs} {ys = ys} h k) rest = opens_apart xs ys rest (stmt_opens h (ys ++ rest))

-- the end of a block or a script
pub data IsStop : List Lexeme → Type 0 where
  at_dedent : (ts : List Lexeme) → IsStop (token.Dedent ∷ ts)
  at_end : (ts : List Lexeme) → IsStop (token.End ∷ ts)

pub stop_ahead : {ts : List Lexeme} → IsStop ts → stmt_ahead (head_of ts) ≡ false
unfolding stmt_ahead
stop_ahead (at_dedent ts) = refl
stop_ahead (at_end ts) = refl

pub stop_ends : {ts : List Lexeme} → IsStop ts → ends_stmt (head_of ts) ≡ true
unfolding ends_stmt
stop_ends (at_dedent ts) = refl
stop_ends (at_end ts) = refl

-- ---- a line where a block, a statement or a body may stand

pub block_is_line : (inner : Reader) (room : ℕ) (c : Context) (n : ℕ) (us : List Lexeme) → begins_line (head_of us) ≡ true → block inner room c n us ≡ line_block c n room us
unfolding begins_line block
block_is_line inner room c n [] e = refl
block_is_line inner room c n (token.Newline ∷ us) e = absurd cc
block_is_line inner room c n (t ∷ us) e = refl

pub stmt_is_line : (room : ℕ) (c : Context) (n : ℕ) (us : List Lexeme) → begins_line (head_of us) ≡ true → stmt room c n us ≡ line_block c n room us
unfolding begins_line stmt
stmt_is_line zero c n [] e = refl
stmt_is_line (suc room) c n [] e = refl
stmt_is_line room c n (token.If ∷ us) e = absurd cc
stmt_is_line room c n (token.While ∷ us) e = absurd cc
stmt_is_line room c n (token.Try ∷ us) e = absurd cc
stmt_is_line room c n (token.Def ∷ us) e = absurd cc
stmt_is_line zero c n (t ∷ us) e = refl
stmt_is_line (suc room) c n (t ∷ us) e = refl

-- ---- where nothing goes on with a statement

pub no_elif : (s : List Branch × ℕ) (t : Option Lexeme) → ends_stmt t ≡ true → elif_ahead s t ≡ false
unfolding ends_stmt elif_ahead
no_elif s (Some token.Elif) e = absurd cc
no_elif s t e = refl

pub no_except : (t : Option Lexeme) → ends_stmt t ≡ true → except_ahead t ≡ false
unfolding ends_stmt except_ahead
no_except (Some token.Except) e = absurd cc
no_except t e = refl

pub no_else : (inner : Reader) (room : ℕ) (c : Context) (n : ℕ) (us : List Lexeme) → ends_stmt (head_of us) ≡ true → else_part inner room c n us ≡ given ([], n) us
unfolding ends_stmt else_part
no_else inner room c n [] e = refl
no_else inner room c n (token.Else ∷ us) e = absurd cc
no_else inner room c n (t ∷ us) e = refl

pub no_finally : (inner : Reader) (room : ℕ) (c : Context) (n : ℕ) (us : List Lexeme) → ends_stmt (head_of us) ≡ true → finally_part inner room c n us ≡ given ([], n) us
unfolding ends_stmt finally_part
no_finally inner room c n [] e = refl
no_finally inner room c n (token.Finally ∷ us) e = absurd cc
no_finally inner room c n (t ∷ us) e = refl
