-- Each form of statement is read rightly, where the statements one level further in are.
use Rattle.std.proofs.Common.{◌≡◌, ℕ, zero, suc, ◌<◌, ◌&&◌, Bool, true, false, List, [], ◌∷◌, ◌++◌, length, Option, Some, None, Result, Ok, Err, refl, sym, ap, subst, ◌∙◌, append_assoc, append-nil, arith, length-append}
use Rattle.std.specs.Prelude.{if◌then◌else◌}
use Rattle.source_combinators.specs.declared.fault.Fault.{Fault}
use Rattle.source_combinators.specs.declared.fault.Refusal.TheVariants.{TooDeep, Syntax}
use Rattle.source_combinators.specs.Reading.{Read, ◌>>=◌, given, refused, too_deep, head_of}
use Rattle.source_combinators.specs.Many.{rounds}
use Rattle.source_combinators.proofs.Right.{at_head, at_end, Found, Goes_on, Stuck, Right, refuses, refuses_end, refuses_level, level, chosen, IsSequence, sequence}
use Rattle.source_combinators.proofs.Steps.{IsToken, token_goes_on, token_there, token_missing, token_cut, none_read, none_at_end, one_read}
use Rattle.source_combinators.proofs.Many.{IsRounds, bind_pair, bind_pairs, right_many}
use Rattle.source_combinators.proofs.Forms.{Grows, AllRight, right_then, prefixed, enclosed, as_named, widened}
use Rattle.py_syntax.specs.declared.lexeme.Lexeme.{Lexeme}
use Rattle.py_syntax.specs.declared.lexeme.Lexeme.TheVariants as token
use Rattle.py_syntax.specs.declared.expr.Expr.{Expr}
use Rattle.py_syntax.specs.declared.expr.Spelled.{Spelled}
use Rattle.py_syntax.specs.declared.stmt.Stmt.{Stmt}
use Rattle.py_syntax.specs.declared.stmt.Stmt.TheVariants as tree
use Rattle.py_syntax.specs.declared.stmt.Branch.{Branch}
use Rattle.py_syntax.specs.declared.stmt.Handler.{Handler}
use Rattle.py_syntax.specs.declared.context.Context.{Context}
use Rattle.py_syntax.specs.Contexts.{top, within_loop, within_finally, within_function}
use Rattle.py_syntax.specs.Expressions.{IsExpr}
use Rattle.py_syntax.specs.Simple.{IsLine}
use Rattle.py_syntax.specs.Simple as simple
use Rattle.py_syntax.specs.Statements as grammar
use Rattle.py_syntax.specs.Statements.{IsStmt, IsStmts, IsBlock, IsBranch, IsElifs, IsElse, IsFinally}
use Rattle.source_spec_lines.specs.Expressions.{expr, form, Whole}
use Rattle.source_spec_lines.proofs.ExpressionFamilies.{grows_chain}
use Rattle.source_spec_lines.proofs.ExpressionRight.{right_form, a_name, the_name, name_expr}
use Rattle.source_spec_lines.specs.Lines.{line}
use Rattle.source_spec_lines.proofs.LineFamilies.{grows_line}
use Rattle.source_spec_lines.proofs.LineRight.{right_line}
use Rattle.source_combinators.specs.Separated.{single}
use Rattle.source_spec_statements.specs.Reading.{Stmts, Reader, newline, colon, indent, dedent, stmt_ahead, begins_stmt, next_stmt, stmts, line_block, stmts_to_dedent, indented, block, colon_block, branch_of, branch, elif_ahead, next_elif, branches, else_part, finally_part, if_rest, while_rest}
use Rattle.source_spec_statements.proofs.Families.{grows_stmt, grows_stmts, grows_block, grows_branch, grows_elifs, grows_else, grows_finally, some_stmt}

-- the reader of statements is right with this much room
abbrev pub IsInner : Reader → ℕ → Type 0
IsInner inner room = (c : Context) (n : ℕ) → AllRight (inner c n) (IsStmt c n) room

-- ---- single tokens

pub right_newline : (room : ℕ) → AllRight newline (IsToken token.Newline) room
unfolding newline
right_newline room [] = token_cut newline token.Newline room refl
right_newline room (token.Newline ∷ ts) = token_there newline token.Newline room ts (λ tail. refl)
right_newline room (t ∷ ts) = token_missing newline token.Newline t room ts (λ tail. refl)

pub right_colon : (room : ℕ) → AllRight colon (IsToken token.Colon) room
unfolding colon
right_colon room [] = token_cut colon token.Colon room refl
right_colon room (token.Colon ∷ ts) = token_there colon token.Colon room ts (λ tail. refl)
right_colon room (t ∷ ts) = token_missing colon token.Colon t room ts (λ tail. refl)

pub right_indent : (room : ℕ) → AllRight indent (IsToken token.Indent) room
unfolding indent
right_indent room [] = token_cut indent token.Indent room refl
right_indent room (token.Indent ∷ ts) = token_there indent token.Indent room ts (λ tail. refl)
right_indent room (t ∷ ts) = token_missing indent token.Indent t room ts (λ tail. refl)

pub right_dedent : (room : ℕ) → AllRight dedent (IsToken token.Dedent) room
unfolding dedent
right_dedent room [] = token_cut dedent token.Dedent room refl
right_dedent room (token.Dedent ∷ ts) = token_there dedent token.Dedent room ts (λ tail. refl)
right_dedent room (t ∷ ts) = token_missing dedent token.Dedent t room ts (λ tail. refl)

-- ---- what completes a form: `pass`

pub pass_line : (c : Context) (room : ℕ) → IsLine c room (token.Pass ∷ []) (tree.Pass ∷ [])
pass_line c room = simple.line (single simple.pass)

pub pass_stmt : (c : Context) (n room : ℕ) → IsStmt c n room (token.Pass ∷ token.Newline ∷ []) (tree.Pass ∷ [], n)
pass_stmt c n room = grammar.on_line (pass_line c room)

pub pass_block : (c : Context) (n room : ℕ) → IsBlock c n room (token.Pass ∷ token.Newline ∷ []) (tree.Pass ∷ [], n)
pass_block c n room = grammar.line_block (pass_line c room)

-- ---- statements in a row

pub data IsNext : Context → Stmts → ℕ → List Lexeme → Stmts → Type 0 where
  next : {c : Context} {s x : Stmts} {room : ℕ} {ts : List Lexeme} → IsStmt c s.1 room ts x → IsNext c s room ts (s.0 ++ x.0, x.1)

pub data IsOthers : Context → Stmts → ℕ → List Lexeme → Stmts → Type 0 where
  no_others : {c : Context} {s : Stmts} {room : ℕ} → IsOthers c s room [] s
  others : {c : Context} {s x : Stmts} {room : ℕ} {ts : List Lexeme} → IsStmts c s.1 room ts x → IsOthers c s room ts (s.0 ++ x.0, x.1)

abbrev pair : List Stmt → ℕ → Stmts
pair ss n = (ss, n)

all_next : (c : Context) (n : ℕ) (s t u : Stmts) (xs ys : List Lexeme) → IsNext c s n xs t → IsOthers c t n ys u → IsOthers c s n (xs ++ ys) u
all_next c n s t u xs ys (next {x = x} h) no_others = subst (λ (l : List Lexeme). IsOthers c s n l (pair (s.0 ++ x.0) x.1)) (sym (append-nil xs)) (others (grammar.last_stmt h))
all_next c n s t u xs ys (next {x = x} h) (others {x = y} k) = subst (λ (l : List Stmt). IsOthers c s n (xs ++ ys) (pair l y.1)) (sym (append_assoc s.0 x.0 y.0)) (others (grammar.more_stmts h k))

takes_next : (c : Context) (n : ℕ) (s t : Stmts) (ts : List Lexeme) → IsNext c s n ts t → 0 < length ts
takes_next c n s t ts (next {x = x} h) = some_stmt c s.1 n ts x h

grows_next : (c : Context) (n : ℕ) (s t : Stmts) (ts : List Lexeme) → IsNext c s n ts t → IsNext c s (suc n) ts t
grows_next c n s t ts (next h) = next (grows_stmt h)

right_next : (inner : Reader) (room : ℕ) → IsInner inner room → (c : Context) (s : Stmts) → AllRight (next_stmt inner c s) (IsNext c s) room
unfolding next_stmt
right_next inner room h c s ts = prefixed [] (inner c s.1) (IsStmt c s.1) (λ x. pair (s.0 ++ x.0) x.1) (next_stmt inner c s) (IsNext c s) (λ us. refl) (λ n xs x k. next k) (λ n xs x k. grows_stmt k) room ts (h c s.1 ts)

pub stmt_rounds : (inner : Reader) (room : ℕ) → IsInner inner room → (c : Context) → IsRounds begins_stmt (next_stmt inner c) (IsNext c) (IsOthers c) room
stmt_rounds inner room h c = record {
  right = λ s ts e. right_next inner room h c s ts;
  takes = takes_next c room;
  grows = grows_next c;
  none = λ n s. no_others;
  more = all_next c;
}

stmts_of : (c : Context) (n room : ℕ) (xs ys : List Lexeme) (x y : Stmts) → IsStmt c n room xs x → IsOthers c x room ys y → IsStmts c n room (xs ++ ys) y
stmts_of c n room xs ys x y h no_others = subst (λ (l : List Lexeme). IsStmts c n room l x) (sym (append-nil xs)) (grammar.last_stmt h)
stmts_of c n room xs ys x y h (others k) = grammar.more_stmts h k

pub right_stmts : (inner : Reader) (room : ℕ) → IsInner inner room → (c : Context) (n : ℕ) → AllRight (stmts inner c n) (IsStmts c n) room
unfolding stmts
right_stmts inner room h c n =
    right_then (inner c n) (IsStmt c n) (λ x. rounds begins_stmt (next_stmt inner c) x) (IsOthers c) (stmts inner c n) (IsStmts c n) (λ us. refl) (λ k xs ys x y q r. stmts_of c n k xs ys x y q r) (λ k xs x q. grows_stmt q) (λ k x. record { more = []; value = x; spelled = no_others }) room (h c n) (λ x ts. right_many (stmt_rounds inner room h c) x ts)

-- ---- blocks

right_line_block : (c : Context) (n room : ℕ) → AllRight (line_block c n room) (IsBlock c n) room
unfolding line_block
right_line_block c n room ts = enclosed [] token.Newline (line c room) (IsLine c) newline (λ ss. pair ss n) (line_block c n room) (IsBlock c n) (λ us. refl) (λ k xs ss h. grammar.line_block h) (grows_line c) room (right_newline room) ts (right_line c room ts)

pub right_line_stmt : (c : Context) (n room : ℕ) → AllRight (line_block c n room) (IsStmt c n) room
unfolding line_block
right_line_stmt c n room ts = enclosed [] token.Newline (line c room) (IsLine c) newline (λ ss. pair ss n) (line_block c n room) (IsStmt c n) (λ us. refl) (λ k xs ss h. grammar.on_line h) (grows_line c) room (right_newline room) ts (right_line c room ts)

-- statements and the end of their block
pub data IsToDedent : Context → ℕ → ℕ → List Lexeme → Stmts → Type 0 where
  to_dedent : {c : Context} {n room : ℕ} {ts : List Lexeme} {ss : Stmts} → IsStmts c n room ts ss → IsToDedent c n room (ts ++ token.Dedent ∷ []) ss

pub right_to_dedent : (inner : Reader) (room : ℕ) → IsInner inner room → (c : Context) (n : ℕ) → AllRight (stmts_to_dedent inner c n) (IsToDedent c n) room
unfolding stmts_to_dedent
right_to_dedent inner room h c n ts = enclosed [] token.Dedent (stmts inner c n) (IsStmts c n) dedent (λ x. x) (stmts_to_dedent inner c n) (IsToDedent c n) (λ us. refl) (λ k xs x q. to_dedent q) (λ k xs x q. grows_stmts q) room (right_dedent room) ts (right_stmts inner room h c n ts)

pub to_dedent_goes_on : (c : Context) (n room : ℕ) → Goes_on (IsToDedent c n) room []
to_dedent_goes_on c n room = record { more = token.Pass ∷ token.Newline ∷ token.Dedent ∷ []; value = pair (tree.Pass ∷ []) n; spelled = to_dedent (grammar.last_stmt (pass_stmt c n room)) }

-- what stands behind the end of the line that begins a block
pub data IsIndented : Context → ℕ → ℕ → List Lexeme → Stmts → Type 0 where
  is_indented : {c : Context} {n room : ℕ} {ts : List Lexeme} {ss : Stmts} → IsStmts c n room ts ss → IsIndented c n room (token.Indent ∷ (ts ++ token.Dedent ∷ [])) ss

indented_by : (c : Context) (n room : ℕ) (xs ys : List Lexeme) (ss : Stmts) → IsToken token.Indent room xs tt → IsToDedent c n room ys ss → IsIndented c n room (xs ++ ys) ss
indented_by c n room xs ys ss e (to_dedent {ts = ts} h) = subst (λ (l : List Lexeme). IsIndented c n room (l ++ (ts ++ token.Dedent ∷ [])) ss) (sym e) (is_indented h)

pub right_indented : (inner : Reader) (room : ℕ) → IsInner inner room → (c : Context) (n : ℕ) → AllRight (indented inner c n) (IsIndented c n) room
unfolding indented
right_indented inner room h c n = right_then indent (IsToken token.Indent) (λ u. stmts_to_dedent inner c n) (λ u. IsToDedent c n) (indented inner c n) (IsIndented c n) (λ us. refl) (λ k xs ys u ss e q. indented_by c n k xs ys ss e q) (λ k xs u e. e) (λ k u. to_dedent_goes_on c n k) room (right_indent room) (λ u. right_to_dedent inner room h c n)

pub block_goes_on : (c : Context) (n room : ℕ) → Goes_on (IsBlock c n) room []
block_goes_on c n room = record { more = token.Pass ∷ token.Newline ∷ []; value = pair (tree.Pass ∷ []) n; spelled = pass_block c n room }

newline_block : (c : Context) (n room : ℕ) (ts : List Lexeme) (ss : Stmts) → IsIndented c n room ts ss → IsBlock c n room (token.Newline ∷ ts) ss
newline_block c n room ts ss (is_indented h) = grammar.indented h

grows_indented : (c : Context) (n : ℕ) → Grows (IsIndented c n)
grows_indented c n room ts ss (is_indented h) = is_indented (grows_stmts h)

read_again : (r : Read Lexeme Stmts) → r ≡ (r >>= λ x. given x.0 x.1)
read_again (Ok x) = refl
read_again (Err fault) = refl

block_as_line : (inner : Reader) (c : Context) (n room : ℕ) (ts : List Lexeme) → ((us : List Lexeme) → head_of us ≡ head_of ts → block inner room c n us ≡ line_block c n room us) → Right (block inner room c n) (IsBlock c n) room ts (line_block c n room ts)
block_as_line inner c n room ts e = chosen (line_block c n room) (block inner room c n) (IsBlock c n) (IsBlock c n) room ts (line_block c n room ts) e (λ k xs x h. h) (right_line_block c n room ts)

pub right_block : (inner : Reader) (room : ℕ) → IsInner inner room → (c : Context) (n : ℕ) → AllRight (block inner room c n) (IsBlock c n) room
unfolding block
right_block inner room h c n [] = block_as_line inner c n room [] (λ us e. at_end (λ l. block inner room c n l ≡ line_block c n room l) us e refl)
right_block inner room h c n (token.Newline ∷ ts) = prefixed (token.Newline ∷ []) (indented inner c n) (IsIndented c n) (λ x. x) (block inner room c n) (IsBlock c n) (λ us. read_again (indented inner c n us)) (λ k xs x q. newline_block c n k xs x q) (grows_indented c n) room ts (right_indented inner room h c n ts)
right_block inner room h c n (t ∷ ts) = block_as_line inner c n room (t ∷ ts) (λ us e. at_head (λ l. block inner room c n l ≡ line_block c n room l) t us e (λ tail. refl))

-- a colon and a block
pub data IsColonBlock : Context → ℕ → ℕ → List Lexeme → Stmts → Type 0 where
  colon_before : {c : Context} {n room : ℕ} {ts : List Lexeme} {ss : Stmts} → IsBlock c n room ts ss → IsColonBlock c n room (token.Colon ∷ ts) ss

colon_by : (c : Context) (n room : ℕ) (xs ys : List Lexeme) (ss : Stmts) → IsToken token.Colon room xs tt → IsBlock c n room ys ss → IsColonBlock c n room (xs ++ ys) ss
colon_by c n room xs ys ss e h = subst (λ (l : List Lexeme). IsColonBlock c n room (l ++ ys) ss) (sym e) (colon_before h)

pub right_colon_block : (inner : Reader) (room : ℕ) → IsInner inner room → (c : Context) (n : ℕ) → AllRight (colon_block inner room c n) (IsColonBlock c n) room
unfolding colon_block
right_colon_block inner room h c n = right_then colon (IsToken token.Colon) (λ u. block inner room c n) (λ u. IsBlock c n) (colon_block inner room c n) (IsColonBlock c n) (λ us. refl) (λ k xs ys u ss e q. colon_by c n k xs ys ss e q) (λ k xs u e. e) (λ k u. block_goes_on c n k) room (right_colon room) (λ u. right_block inner room h c n)

pub colon_goes_on : (c : Context) (n room : ℕ) → Goes_on (IsColonBlock c n) room []
colon_goes_on c n room = record { more = token.Colon ∷ token.Pass ∷ token.Newline ∷ []; value = pair (tree.Pass ∷ []) n; spelled = colon_before (pass_block c n room) }

pub grows_colon_block : (c : Context) (n : ℕ) → Grows (IsColonBlock c n)
grows_colon_block c n room ts ss (colon_before h) = colon_before (grows_block h)

-- ---- `if` and `while`

branch_by : (c : Context) (n room : ℕ) (xs ys : List Lexeme) (e : Spelled) (ss : Stmts) → IsExpr room xs e → IsColonBlock c n room ys ss → IsBranch c n room (xs ++ ys) (branch_of e.tree ss)
branch_by c n room xs ys e ss h (colon_before k) = grammar.branch h k

pub right_branch : (inner : Reader) (room : ℕ) → IsInner inner room → (c : Context) (n : ℕ) → AllRight (branch inner room c n) (IsBranch c n) room
unfolding branch
right_branch inner room h c n ts =
    sequence {p = []} {F = expr room} {IsA = IsExpr} {G = λ e. colon_block inner room c n} {IsB = λ e. IsColonBlock c n} {f = λ e ss. branch_of e.tree ss} {H = branch inner room c n} {IsC = IsBranch c n} (record {
      computes = λ us. refl;
      builds = λ k xs ys e ss q r. branch_by c n k xs ys e ss q r;
      grows = λ k xs e q. grows_chain q;
      finishes = λ k e. colon_goes_on c n k;
    }) room ts (right_form room Whole ts) (λ e rest k. right_colon_block inner room h c n rest)

abbrev Branches : Type 0
Branches = List Branch × ℕ

abbrev some_branches : List Branch → ℕ → Branches
some_branches bs n = (bs, n)

pub data IsNextElif : Context → Branches → ℕ → List Lexeme → Branches → Type 0 where
  next_branch : {c : Context} {s : Branches} {b : Branch × ℕ} {room : ℕ} {ts : List Lexeme} → IsBranch c s.1 room ts b → IsNextElif c s room (token.Elif ∷ ts) (s.0 ++ b.0 ∷ [], b.1)

pub data IsMoreElifs : Context → Branches → ℕ → List Lexeme → Branches → Type 0 where
  elifs : {c : Context} {s bs : Branches} {room : ℕ} {ts : List Lexeme} → IsElifs c s.1 room ts bs → IsMoreElifs c s room ts (s.0 ++ bs.0, bs.1)

right_next_elif : (inner : Reader) (room : ℕ) → IsInner inner room → (c : Context) (s : Branches) (ts : List Lexeme) → elif_ahead s (head_of ts) ≡ true → Right (next_elif inner room c s) (IsNextElif c s) room ts (next_elif inner room c s ts)
unfolding next_elif elif_ahead
right_next_elif inner room h c s [] e = absurd cc
right_next_elif inner room h c s (token.Elif ∷ ts) e = prefixed (token.Elif ∷ []) (branch inner room c s.1) (IsBranch c s.1) (λ b. some_branches (s.0 ++ b.0 ∷ []) b.1) (next_elif inner room c s) (IsNextElif c s) (λ us. refl) (λ n xs b k. next_branch k) (λ n xs b k. grows_branch k) room ts (right_branch inner room h c s.1 ts)
right_next_elif inner room h c s (t ∷ ts) e = absurd cc

no_more_elifs : (c : Context) (n : ℕ) (s : Branches) → IsMoreElifs c s n [] s
no_more_elifs c n s = subst (λ (l : List Branch). IsMoreElifs c s n [] (some_branches l s.1)) (append-nil s.0) (elifs grammar.no_elif)

more_elifs : (c : Context) (n : ℕ) (s t u : Branches) (xs ys : List Lexeme) → IsNextElif c s n xs t → IsMoreElifs c t n ys u → IsMoreElifs c s n (xs ++ ys) u
more_elifs c n s t u xs ys (next_branch {b = b} {ts = ts} h) (elifs {bs = bs} k) = subst (λ (l : List Branch). IsMoreElifs c s n (token.Elif ∷ (ts ++ ys)) (some_branches l bs.1)) (sym (append_assoc s.0 (b.0 ∷ []) bs.0)) (elifs (grammar.elif h k))

takes_elif : (c : Context) (n : ℕ) (s t : Branches) (ts : List Lexeme) → IsNextElif c s n ts t → 0 < length ts
takes_elif c n s t ts (next_branch {ts = us} h) = omega arith

grows_next_elif : (c : Context) (n : ℕ) (s t : Branches) (ts : List Lexeme) → IsNextElif c s n ts t → IsNextElif c s (suc n) ts t
grows_next_elif c n s t ts (next_branch h) = next_branch (grows_branch h)

pub elif_rounds : (inner : Reader) (room : ℕ) → IsInner inner room → (c : Context) → IsRounds elif_ahead (next_elif inner room c) (IsNextElif c) (IsMoreElifs c) room
elif_rounds inner room h c = record {
  right = right_next_elif inner room h c;
  takes = takes_elif c room;
  grows = grows_next_elif c;
  none = λ n s. no_more_elifs c n s;
  more = more_elifs c;
}

-- a branch and those behind it
pub data IsBranches : Context → ℕ → ℕ → List Lexeme → Branches → Type 0 where
  all_branches : {c : Context} {n room : ℕ} {xs ys : List Lexeme} {b : Branch × ℕ} {bs : Branches} → IsBranch c n room xs b → IsElifs c b.1 room ys bs → IsBranches c n room (xs ++ ys) (b.0 ∷ bs.0, bs.1)

branches_by : (c : Context) (n room : ℕ) (xs ys : List Lexeme) (b : Branch × ℕ) (bs : Branches) → IsBranch c n room xs b → IsMoreElifs c (b.0 ∷ [], b.1) room ys bs → IsBranches c n room (xs ++ ys) bs
branches_by c n room xs ys b bs h (elifs k) = all_branches h k

pub right_branches : (inner : Reader) (room : ℕ) → IsInner inner room → (c : Context) (n : ℕ) → AllRight (branches inner room c n) (IsBranches c n) room
unfolding branches
right_branches inner room h c n =
    right_then (branch inner room c n) (IsBranch c n) (λ b. rounds elif_ahead (next_elif inner room c) (some_branches (b.0 ∷ []) b.1)) (λ b. IsMoreElifs c (some_branches (b.0 ∷ []) b.1)) (branches inner room c n) (IsBranches c n) (λ us. refl) (λ k xs ys b bs q r. branches_by c n k xs ys b bs q r) (λ k xs b q. grows_branch q) (λ k b. record { more = []; value = some_branches (b.0 ∷ []) b.1; spelled = no_more_elifs c k (some_branches (b.0 ∷ []) b.1) }) room (right_branch inner room h c n) (λ b ts. right_many (elif_rounds inner room h c) (some_branches (b.0 ∷ []) b.1) ts)

grows_branches : (c : Context) (n : ℕ) → Grows (IsBranches c n)
grows_branches c n room ts bs (all_branches h k) = all_branches (grows_branch h) (grows_elifs k)

else_by : (c : Context) (n room : ℕ) (ts : List Lexeme) (ss : Stmts) → IsColonBlock c n room ts ss → IsElse c n room (token.Else ∷ ts) ss
else_by c n room ts ss (colon_before h) = grammar.else_block h

pub right_else : (inner : Reader) (room : ℕ) → IsInner inner room → (c : Context) (n : ℕ) → AllRight (else_part inner room c n) (IsElse c n) room
unfolding else_part
right_else inner room h c n [] = none_at_end (else_part inner room c n) (IsElse c n) room (pair [] n) grammar.no_else refl
right_else inner room h c n (token.Else ∷ ts) = prefixed (token.Else ∷ []) (colon_block inner room c n) (IsColonBlock c n) (λ x. x) (else_part inner room c n) (IsElse c n) (λ us. read_again (colon_block inner room c n us)) (λ k xs x q. else_by c n k xs x q) (grows_colon_block c n) room ts (right_colon_block inner room h c n ts)
right_else inner room h c n (t ∷ ts) = none_read (else_part inner room c n) (IsElse c n) room (pair [] n) t ts grammar.no_else (λ tail. refl)

finally_by : (c : Context) (n room : ℕ) (ts : List Lexeme) (ss : Stmts) → IsColonBlock (within_finally c) n room ts ss → IsFinally c n room (token.Finally ∷ ts) ss
finally_by c n room ts ss (colon_before h) = grammar.finally_block h

pub right_finally : (inner : Reader) (room : ℕ) → IsInner inner room → (c : Context) (n : ℕ) → AllRight (finally_part inner room c n) (IsFinally c n) room
unfolding finally_part
right_finally inner room h c n [] = none_at_end (finally_part inner room c n) (IsFinally c n) room (pair [] n) grammar.no_finally refl
right_finally inner room h c n (token.Finally ∷ ts) = prefixed (token.Finally ∷ []) (colon_block inner room (within_finally c) n) (IsColonBlock (within_finally c) n) (λ x. x) (finally_part inner room c n) (IsFinally c n) (λ us. read_again (colon_block inner room (within_finally c) n us)) (λ k xs x q. finally_by c n k xs x q) (grows_colon_block (within_finally c) n) room ts (right_colon_block inner room h (within_finally c) n ts)
right_finally inner room h c n (t ∷ ts) = none_read (finally_part inner room c n) (IsFinally c n) room (pair [] n) t ts grammar.no_finally (λ tail. refl)

-- what stands behind `if`
pub data IsIf : Context → ℕ → ℕ → List Lexeme → Stmts → Type 0 where
  is_if : {c : Context} {n room : ℕ} {xs ys : List Lexeme} {bs : Branches} {ss : Stmts} → IsBranches c n room xs bs → IsElse c bs.1 room ys ss → IsIf c n room (xs ++ ys) (tree.If bs.0 ss.0 ∷ [], ss.1)

pub right_if : (inner : Reader) (room : ℕ) → IsInner inner room → (c : Context) (n : ℕ) → AllRight (if_rest inner room c n) (IsIf c n) room
unfolding if_rest
right_if inner room h c n ts =
    sequence {p = []} {F = branches inner room c n} {IsA = IsBranches c n} {G = λ bs. else_part inner room c bs.1} {IsB = λ bs. IsElse c bs.1} {f = λ bs ss. pair (tree.If bs.0 ss.0 ∷ []) ss.1} {H = if_rest inner room c n} {IsC = IsIf c n} (record {
      computes = λ us. refl;
      builds = λ k xs ys bs ss q r. is_if q r;
      grows = grows_branches c n;
      finishes = λ k bs. record { more = []; value = pair [] bs.1; spelled = grammar.no_else };
    }) room ts (right_branches inner room h c n ts) (λ bs rest k. right_else inner room h c bs.1 rest)

pub if_by : (c : Context) (n room : ℕ) (ts : List Lexeme) (ss : Stmts) → IsIf c n room ts ss → IsStmt c n (suc room) (token.If ∷ ts) ss
if_by c n room ts ss (is_if {ys = zs} {bs = bs} {ss = es} (all_branches {xs = xs} {ys = ys} {b = b} {bs = cs} h k) q) =
    subst (λ (l : List Lexeme). IsStmt c n (suc room) (token.If ∷ l) (pair (tree.If (b.0 ∷ cs.0) es.0 ∷ []) es.1)) (sym (append_assoc xs ys zs)) (grammar.if_stmt h k q)

pub while_by : (c : Context) (n room : ℕ) (ts : List Lexeme) (b : Branch × ℕ) → IsBranch (within_loop c) n room ts b → IsStmt c n (suc room) (token.While ∷ ts) (tree.While b.0.test b.0.body ∷ [], b.1)
while_by c n room ts b h = grammar.while_stmt h
