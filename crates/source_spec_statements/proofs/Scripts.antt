-- Statements and scripts are read rightly.
use Rattle.std.proofs.Common.{◌≡◌, ℕ, zero, suc, ◌<◌, Bool, true, false, List, [], ◌∷◌, ◌++◌, length, Option, Some, None, Result, Ok, Err, refl, sym, ap, subst, ◌∙◌, append_assoc, append-nil, arith, length-append}
use Rattle.std.specs.Prelude.{if◌then◌else◌}
use Rattle.source_combinators.specs.declared.fault.Fault.{Fault}
use Rattle.source_combinators.specs.declared.fault.Refusal.TheVariants.{TooDeep, Syntax}
use Rattle.source_combinators.specs.Reading.{Read, ◌>>=◌, given, refused, too_deep, head_of}
use Rattle.source_combinators.specs.Many.{rounds}
use Rattle.source_combinators.proofs.Right.{at_head, at_end, Found, Goes_on, Stuck, Right, refuses, refuses_end, refuses_level, level, chosen, IsSequence, sequence}
use Rattle.source_combinators.proofs.Steps.{IsToken, none_read, none_at_end, one_read, token_goes_on}
use Rattle.source_combinators.proofs.Many.{IsRounds, right_many}
use Rattle.source_combinators.proofs.Forms.{Grows, AllRight, right_then, prefixed, enclosed, as_named, widened}
use Rattle.py_syntax.specs.declared.lexeme.Lexeme.{Lexeme}
use Rattle.py_syntax.specs.declared.lexeme.Lexeme.TheVariants as token
use Rattle.py_syntax.specs.declared.stmt.Stmt.{Stmt}
use Rattle.py_syntax.specs.declared.stmt.Stmt.TheVariants as tree
use Rattle.py_syntax.specs.declared.stmt.Script.{Script}
use Rattle.py_syntax.specs.declared.context.Context.{Context}
use Rattle.py_syntax.specs.Contexts.{top, within_loop, within_finally, within_function}
use Rattle.py_syntax.specs.Statements as grammar
use Rattle.py_syntax.specs.Statements.{IsStmt, IsStmts, IsBranch}
use Rattle.py_syntax.specs.Grammar as scripts
use Rattle.py_syntax.specs.Grammar.{Spells}
use Rattle.source_spec_lines.proofs.ExpressionRight.{a_name, the_name, name_expr}
use Rattle.source_spec_statements.specs.Reading.{Stmts, Reader, begins_stmt, next_stmt, line_block, branch, if_rest, while_rest, try_rest, def_rest, stmt, end, script}
use Rattle.source_spec_statements.proofs.Families.{grows_stmt, grows_stmts, grows_branch, grows_elifs, grows_else, grows_block, some_stmt}
use Rattle.source_spec_statements.proofs.Right.{IsInner, IsNext, next, IsOthers, no_others, others, stmt_rounds, right_line_stmt, right_branch, IsIf, is_if, IsBranches, all_branches, right_if, if_by, while_by, pass_stmt, pass_line, pass_block, colon_before}
use Rattle.source_spec_statements.proofs.Tries.{IsTry, is_try, right_try, try_by, grows_try}
use Rattle.source_spec_statements.proofs.Defs.{IsDef, is_def, right_def, def_by, grows_def}

pass_goes_on : (c : Context) (n room : ℕ) → Goes_on (IsStmt c n) room []
pass_goes_on c n room = record { more = token.Pass ∷ token.Newline ∷ []; value = (tree.Pass ∷ [], n); spelled = pass_stmt c n room }

again : (r : Read Lexeme Stmts) → r ≡ (r >>= λ x. given x.0 x.1)
again (Ok x) = refl
again (Err fault) = refl

-- a colon, `pass` and the end of the line
abbrev pass_suite : List Lexeme
pass_suite = token.Colon ∷ token.Pass ∷ token.Newline ∷ []

pass_branch : (c : Context) (n room : ℕ) → IsBranch c n room (a_name ++ pass_suite) (record { test = the_name.tree; body = tree.Pass ∷ [] }, n)
pass_branch c n room = grammar.branch (name_expr room) (pass_block c n room)

grows_if : (c : Context) (n : ℕ) → Grows (IsIf c n)
grows_if c n room ts ss (is_if (all_branches h k) q) = is_if (all_branches (grows_branch h) (grows_elifs k)) (grows_else q)

stmt_as_line : (room : ℕ) (c : Context) (n : ℕ) (ts : List Lexeme) → ((us : List Lexeme) → head_of us ≡ head_of ts → stmt room c n us ≡ line_block c n room us) → Right (stmt room c n) (IsStmt c n) room ts (line_block c n room ts)
stmt_as_line room c n ts e = chosen (line_block c n room) (stmt room c n) (IsStmt c n) (IsStmt c n) room ts (line_block c n room ts) e (λ k xs x q. q) (right_line_stmt c n room ts)

right_if_stmt : (room : ℕ) (c : Context) (n : ℕ) → IsInner (stmt room) room → (ts : List Lexeme) → Right (stmt (suc room) c n) (IsStmt c n) (suc room) (token.If ∷ ts) (stmt (suc room) c n (token.If ∷ ts))
unfolding stmt
right_if_stmt room c n h ts =
    level (stmt (suc room) c n) (IsStmt c n) room (token.If ∷ ts) (stmt (suc room) c n (token.If ∷ ts))
    (prefixed (token.If ∷ []) (if_rest (stmt room) room c n) (IsIf c n) (λ x. x) (stmt (suc room) c n) (λ k. IsStmt c n (suc k)) (λ us. again (if_rest (stmt room) room c n us)) (λ k xs x q. if_by c n k xs x q) (grows_if c n) room ts (right_if (stmt room) room h c n ts))

right_while_stmt : (room : ℕ) (c : Context) (n : ℕ) → IsInner (stmt room) room → (ts : List Lexeme) → Right (stmt (suc room) c n) (IsStmt c n) (suc room) (token.While ∷ ts) (stmt (suc room) c n (token.While ∷ ts))
unfolding stmt while_rest
right_while_stmt room c n h ts =
    level (stmt (suc room) c n) (IsStmt c n) room (token.While ∷ ts) (stmt (suc room) c n (token.While ∷ ts))
    (prefixed (token.While ∷ []) (branch (stmt room) room (within_loop c) n) (IsBranch (within_loop c) n) (λ b. (tree.While b.0.test b.0.body ∷ [], b.1)) (stmt (suc room) c n) (λ k. IsStmt c n (suc k)) (λ us. refl) (λ k xs b q. while_by c n k xs b q) (λ k xs b q. grows_branch q) room ts (right_branch (stmt room) room h (within_loop c) n ts))

right_try_stmt : (room : ℕ) (c : Context) (n : ℕ) → IsInner (stmt room) room → (ts : List Lexeme) → Right (stmt (suc room) c n) (IsStmt c n) (suc room) (token.Try ∷ ts) (stmt (suc room) c n (token.Try ∷ ts))
unfolding stmt
right_try_stmt room c n h ts =
    level (stmt (suc room) c n) (IsStmt c n) room (token.Try ∷ ts) (stmt (suc room) c n (token.Try ∷ ts))
    (prefixed (token.Try ∷ []) (try_rest (stmt room) room c n) (IsTry c n) (λ x. x) (stmt (suc room) c n) (λ k. IsStmt c n (suc k)) (λ us. again (try_rest (stmt room) room c n us)) (λ k xs x q. try_by c n k xs x q) (grows_try c n) room ts (right_try (stmt room) room h c n ts))

right_def_stmt : (room : ℕ) (c : Context) (n : ℕ) → IsInner (stmt room) room → (ts : List Lexeme) (b : Bool) → c.in_function ≡ b → Right (stmt (suc room) c n) (IsStmt c n) (suc room) (token.Def ∷ ts) (if b then refused (token.Def ∷ ts) else def_rest (stmt room) room n ts)
unfolding stmt
right_def_stmt room c n h ts true e = refuses (stmt (suc room) c n) (IsStmt c n) (suc room) token.Def ts (pass_goes_on c n (suc room)) (λ tail. rw e refl)
right_def_stmt room c n h ts false e =
    subst (Right (stmt (suc room) c n) (IsStmt c n) (suc room) (token.Def ∷ ts)) (rw e refl)
    (level (stmt (suc room) c n) (IsStmt c n) room (token.Def ∷ ts) (stmt (suc room) c n (token.Def ∷ ts))
    (prefixed (token.Def ∷ []) (def_rest (stmt room) room n) (IsDef n) (λ x. x) (stmt (suc room) c n) (λ k. IsStmt c n (suc k)) (λ us. rw e (again (def_rest (stmt room) room n us))) (λ k xs x q. def_by c n k xs x e q) (grows_def n) room ts (right_def (stmt room) room h n ts)))

def_at_bottom : (c : Context) (n : ℕ) (ts : List Lexeme) (b : Bool) → c.in_function ≡ b → Right (stmt 0 c n) (IsStmt c n) 0 (token.Def ∷ ts) (if b then refused (token.Def ∷ ts) else too_deep (token.Def ∷ ts))
unfolding stmt
def_at_bottom c n ts true e = refuses (stmt 0 c n) (IsStmt c n) 0 token.Def ts (pass_goes_on c n 0) (λ tail. rw e refl)
def_at_bottom c n ts false e = refuses_level (stmt 0 c n) (IsStmt c n) 0 token.Def ts (pass_goes_on c n 0)
    (record { more = token.Name (97 ∷ []) ∷ token.OpenParen ∷ token.CloseParen ∷ token.Colon ∷ token.Pass ∷ token.Newline ∷ []; value = _; spelled = grammar.def_stmt (97 ∷ []) e grammar.no_parameters (grammar.line_body (pass_line within_function 0)) })
    (λ tail. rw e refl)

pub right_stmt : (room : ℕ) → IsInner (stmt room) room
unfolding stmt
right_stmt zero c n [] = stmt_as_line 0 c n [] (λ us e. at_end (λ l. stmt 0 c n l ≡ line_block c n 0 l) us e refl)
right_stmt (suc room) c n [] = stmt_as_line (suc room) c n [] (λ us e. at_end (λ l. stmt (suc room) c n l ≡ line_block c n (suc room) l) us e refl)
right_stmt zero c n (token.If ∷ ts) = refuses_level (stmt 0 c n) (IsStmt c n) 0 token.If ts (pass_goes_on c n 0) (record { more = a_name ++ pass_suite; value = _; spelled = grammar.if_stmt (pass_branch c n 0) grammar.no_elif grammar.no_else }) (λ tail. refl)
right_stmt (suc room) c n (token.If ∷ ts) = right_if_stmt room c n (right_stmt room) ts
right_stmt zero c n (token.While ∷ ts) = refuses_level (stmt 0 c n) (IsStmt c n) 0 token.While ts (pass_goes_on c n 0) (record { more = a_name ++ pass_suite; value = _; spelled = grammar.while_stmt (pass_branch (within_loop c) n 0) }) (λ tail. refl)
right_stmt (suc room) c n (token.While ∷ ts) = right_while_stmt room c n (right_stmt room) ts
right_stmt zero c n (token.Try ∷ ts) = refuses_level (stmt 0 c n) (IsStmt c n) 0 token.Try ts (pass_goes_on c n 0) (record { more = token.Colon ∷ token.Pass ∷ token.Newline ∷ token.Finally ∷ token.Colon ∷ token.Pass ∷ token.Newline ∷ []; value = _; spelled = grammar.try_finally (pass_block c n 0) (pass_block (within_finally c) n 0) }) (λ tail. refl)
right_stmt (suc room) c n (token.Try ∷ ts) = right_try_stmt room c n (right_stmt room) ts
right_stmt zero c n (token.Def ∷ ts) = def_at_bottom c n ts c.in_function refl
right_stmt (suc room) c n (token.Def ∷ ts) = right_def_stmt room c n (right_stmt room) ts c.in_function refl
right_stmt zero c n (t ∷ ts) = stmt_as_line 0 c n (t ∷ ts) (λ us e. at_head (λ l. stmt 0 c n l ≡ line_block c n 0 l) t us e (λ tail. refl))
right_stmt (suc room) c n (t ∷ ts) = stmt_as_line (suc room) c n (t ∷ ts) (λ us e. at_head (λ l. stmt (suc room) c n l ≡ line_block c n (suc room) l) t us e (λ tail. refl))

-- ---- scripts

right_end : (room : ℕ) → AllRight end (IsToken token.End) room
unfolding end
right_end room [] = refuses_end end (IsToken token.End) room (token_goes_on token.End room) refl
right_end room (token.End ∷ []) = record { front = token.End ∷ []; parts = refl; spelled = refl; again = λ more e. at_end (λ m. end (token.End ∷ m) ≡ given tt m) more e refl }
right_end room (token.End ∷ t ∷ ts) = record {
  front = token.End ∷ [];
  rest = t ∷ ts;
  parts = refl;
  left = refl;
  before = record { more = []; value = tt; spelled = refl };
  deep = λ k. absurd cc;
  again = λ more e. at_head (λ m. end (token.End ∷ m) ≡ refused m) t more e (λ tail. refl);
}
right_end room (t ∷ ts) = refuses end (IsToken token.End) room t ts (token_goes_on token.End room) (λ tail. refl)

grows_others : (c : Context) (s : Stmts) → Grows (IsOthers c s)
grows_others c s n ts t no_others = no_others
grows_others c s n ts t (others k) = others (grows_stmts k)

script_by : (room : ℕ) (xs : List Lexeme) (s : Stmts) → IsOthers top ([], 0) room xs s → Spells room (xs ++ token.End ∷ []) (record { body = s.0 })
script_by room xs s no_others = scripts.no_statements
script_by room xs s (others k) = scripts.statements k

pub right_script : (room : ℕ) → AllRight (script room) Spells room
unfolding script
right_script room ts = enclosed [] token.End (rounds begins_stmt (next_stmt (stmt room) top) ([], 0)) (IsOthers top ([], 0)) end (λ s. record { body = s.0 }) (script room) Spells (λ us. refl) script_by (grows_others top ([], 0)) room (right_end room) ts (right_many (stmt_rounds (stmt room) room (right_stmt room) top) ([], 0) ts)
