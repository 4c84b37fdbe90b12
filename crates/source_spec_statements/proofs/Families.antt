-- What holds of every statement as it is spelled: it is spelled with more room too, and it has tokens.
use Rattle.std.proofs.Common.{◌≡◌, ℕ, suc, ◌<◌, Bool, true, false, List, [], ◌∷◌, ◌++◌, length, Option, arith, length-append}
use Rattle.source_combinators.specs.Separated.{IsSeparated}
use Rattle.source_combinators.proofs.Forms.{Grows}
use Rattle.py_syntax.specs.declared.lexeme.Lexeme.{Lexeme}
use Rattle.py_syntax.specs.declared.lexeme.Lexeme.TheVariants as token
use Rattle.py_syntax.specs.declared.stmt.Stmt.{Stmt}
use Rattle.py_syntax.specs.declared.stmt.Branch.{Branch}
use Rattle.py_syntax.specs.declared.stmt.Handler.{Handler}
use Rattle.py_syntax.specs.declared.context.Context.{Context}
use Rattle.py_syntax.specs.Statements as grammar
use Rattle.py_syntax.specs.Statements.{IsParameters, IsGlobal, IsGlobalLines, Body, IsStmt, IsStmts, IsBlock, IsBranch, IsElifs, IsElse, IsFinally, IsHandler, IsHandlers, IsBody}
use Rattle.py_syntax.specs.Contexts.{within_function}
use Rattle.py_syntax.specs.Simple.{IsLine}
use Rattle.source_spec_lines.proofs.ExpressionFamilies.{grows_chain}
use Rattle.source_spec_lines.proofs.LineFamilies.{grows_separated, grows_bound, grows_line}

pub grows_parameters : (found : List (List ℕ)) → Grows (IsParameters found)
grows_parameters found n ts s grammar.no_parameters = grammar.no_parameters
grows_parameters found n ts s (grammar.last_parameter m h) = grammar.last_parameter m h
grows_parameters found n ts s (grammar.next_parameter {ts = us} {all = all} m h k) = grammar.next_parameter m h (grows_parameters (found ++ m ∷ []) n us all k)

pub grows_global : (names : List (List ℕ)) → Grows (IsGlobal names)
grows_global names n ts m (grammar.global k h) = grammar.global k h

pub grows_global_lines : (names : List (List ℕ)) → Grows (IsGlobalLines names)
grows_global_lines names n ts ns grammar.no_globals = grammar.no_globals
grows_global_lines names n ts ns (grammar.global_line {ns = xs} {ms = ys} {ts = us} {us = vs} h k) = grammar.global_line (grows_separated (grows_global names) n us xs h) (grows_global_lines names n vs ys k)

mutual
  pub grows_stmt : {c : Context} {n room : ℕ} {ts : List Lexeme} {ss : List Stmt × ℕ} → IsStmt c n room ts ss → IsStmt c n (suc room) ts ss
  grows_stmt (grammar.on_line {c = c} {room = room} {ts = ts} {ss = ss} h) = grammar.on_line (grows_line c room ts ss h)
  grows_stmt (grammar.if_stmt h k q) = grammar.if_stmt (grows_branch h) (grows_elifs k) (grows_else q)
  grows_stmt (grammar.while_stmt h) = grammar.while_stmt (grows_branch h)
  grows_stmt (grammar.try_finally h k) = grammar.try_finally (grows_block h) (grows_block k)
  grows_stmt (grammar.try_except h k q r) = grammar.try_except (grows_block h) (grows_handlers k) (grows_else q) (grows_finally r)
  grows_stmt (grammar.def_stmt {room = room} {ts = ts} {parameters = ps} {is_open = o} m f h k) = grammar.def_stmt m f (grows_parameters [] room ts (ps, o) h) (grows_body k)

  pub grows_stmts : {c : Context} {n room : ℕ} {ts : List Lexeme} {ss : List Stmt × ℕ} → IsStmts c n room ts ss → IsStmts c n (suc room) ts ss
  grows_stmts (grammar.last_stmt h) = grammar.last_stmt (grows_stmt h)
  grows_stmts (grammar.more_stmts h k) = grammar.more_stmts (grows_stmt h) (grows_stmts k)

  pub grows_block : {c : Context} {n room : ℕ} {ts : List Lexeme} {ss : List Stmt × ℕ} → IsBlock c n room ts ss → IsBlock c n (suc room) ts ss
  grows_block (grammar.line_block {c = c} {room = room} {ts = ts} {ss = ss} h) = grammar.line_block (grows_line c room ts ss h)
  grows_block (grammar.indented h) = grammar.indented (grows_stmts h)

  pub grows_branch : {c : Context} {n room : ℕ} {ts : List Lexeme} {b : Branch × ℕ} → IsBranch c n room ts b → IsBranch c n (suc room) ts b
  grows_branch (grammar.branch h k) = grammar.branch (grows_chain h) (grows_block k)

  pub grows_elifs : {c : Context} {n room : ℕ} {ts : List Lexeme} {b : List Branch × ℕ} → IsElifs c n room ts b → IsElifs c n (suc room) ts b
  grows_elifs grammar.no_elif = grammar.no_elif
  grows_elifs (grammar.elif h k) = grammar.elif (grows_branch h) (grows_elifs k)

  pub grows_else : {c : Context} {n room : ℕ} {ts : List Lexeme} {ss : List Stmt × ℕ} → IsElse c n room ts ss → IsElse c n (suc room) ts ss
  grows_else grammar.no_else = grammar.no_else
  grows_else (grammar.else_block h) = grammar.else_block (grows_block h)

  pub grows_finally : {c : Context} {n room : ℕ} {ts : List Lexeme} {ss : List Stmt × ℕ} → IsFinally c n room ts ss → IsFinally c n (suc room) ts ss
  grows_finally grammar.no_finally = grammar.no_finally
  grows_finally (grammar.finally_block h) = grammar.finally_block (grows_block h)

  pub grows_handler : {c : Context} {n room : ℕ} {ts : List Lexeme} {h : Handler × ℕ} → IsHandler c n room ts h → IsHandler c n (suc room) ts h
  grows_handler (grammar.handler {room = room} {ys = ys} {as_name = b} h k q) = grammar.handler (grows_chain h) (grows_bound room ys b k) (grows_block q)

  pub grows_handlers : {c : Context} {n room : ℕ} {ts : List Lexeme} {hs : List Handler × ℕ} → IsHandlers c n room ts hs → IsHandlers c n (suc room) ts hs
  grows_handlers (grammar.last_handler h) = grammar.last_handler (grows_handler h)
  grows_handlers (grammar.takes_all h) = grammar.takes_all (grows_block h)
  grows_handlers (grammar.more_handlers h k) = grammar.more_handlers (grows_handler h) (grows_handlers k)

  pub grows_body : {names : List (List ℕ)} {n room : ℕ} {ts : List Lexeme} {b : Body × ℕ} → IsBody names n room ts b → IsBody names n (suc room) ts b
  grows_body (grammar.line_body {room = room} {ts = ts} {ss = ss} h) = grammar.line_body (grows_line within_function room ts ss h)
  grows_body (grammar.indented_body {parameters = names} {globals = gs} {room = room} {xs = xs} h k) = grammar.indented_body (grows_global_lines names room xs gs h) (grows_stmts k)

pub some_stmt : (c : Context) (n room : ℕ) (ts : List Lexeme) (ss : List Stmt × ℕ) → IsStmt c n room ts ss → 0 < length ts
some_stmt c n room ts ss (grammar.on_line {ts = us} h) = omega (arith, length-append us (token.Newline ∷ []))
some_stmt c n room ts ss (grammar.if_stmt h k q) = omega arith
some_stmt c n room ts ss (grammar.while_stmt h) = omega arith
some_stmt c n room ts ss (grammar.try_finally h k) = omega arith
some_stmt c n room ts ss (grammar.try_except h k q r) = omega arith
some_stmt c n room ts ss (grammar.def_stmt m f h k) = omega arith
