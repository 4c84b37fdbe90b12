-- With one more level the same statements are read, unless a token was too deep.
use Rattle.std.proofs.Common.{◌≡◌, ℕ, zero, suc, Bool, true, false, List, [], ◌∷◌, length, Option, Some, None, Result, Ok, Err, refl}
use Rattle.std.specs.Prelude.{if◌then◌else◌}
use Rattle.source_combinators.specs.declared.fault.Refusal.TheVariants.{TooDeep, Syntax}
use Rattle.source_combinators.specs.declared.fault.Fault.{Fault}
use Rattle.source_combinators.specs.Reading.{Read, ◌>>=◌, given, refused, too_deep, head_of}
use Rattle.source_combinators.specs.Many.{rounds}
use Rattle.source_combinators.proofs.Agrees.{Agrees, AllAgree, same, agree, agree_many}
use Rattle.py_syntax.specs.declared.lexeme.Lexeme.{Lexeme}
use Rattle.py_syntax.specs.declared.lexeme.Lexeme.TheVariants as token
use Rattle.py_syntax.specs.declared.stmt.Branch.{Branch}
use Rattle.py_syntax.specs.declared.context.Context.{Context}
use Rattle.py_syntax.specs.Contexts.{top, within_loop, within_finally, within_function}
use Rattle.source_spec_lines.specs.Expressions.{expr, Whole}
use Rattle.source_spec_lines.proofs.ExpressionAgrees.{agree_form}
use Rattle.source_spec_lines.specs.Lines.{bound, line}
use Rattle.source_spec_lines.proofs.LineAgrees.{agree_line}
use Rattle.source_spec_statements.specs.Reading.{Stmts, Reader, newline, colon, indent, dedent, begins_stmt, next_stmt, stmts, line_block, stmts_to_dedent, indented, block, colon_block, branch, elif_ahead, next_elif, branches, else_part, finally_part, if_rest, while_rest, Handlers, begins_handler, caught, handler_rest, next_handler, handlers, try_ends, after_try, try_rest, globals, indented_body, after_newline, function_body, signature, def_rest, stmt, end, script}

agree_line_block : (c : Context) (n room : ℕ) → AllAgree (line_block c n room) (line_block c n (suc room))
unfolding line_block
agree_line_block c n room ts = agree (line c room ts) (line c (suc room) ts) _ _ (agree_line c room ts) (λ ss. same (newline ss.1 >>= λ u. given _ u.1))

module _ (f g : Reader) (room : ℕ) (h : (c : Context) (n : ℕ) → AllAgree (f c n) (g c n)) where
  agree_next : (c : Context) (s : Stmts) → AllAgree (next_stmt f c s) (next_stmt g c s)
  unfolding next_stmt
  agree_next c s ts = agree (f c s.1 ts) (g c s.1 ts) _ _ (h c s.1 ts) (λ x. refl)

  agree_stmts : (c : Context) (n : ℕ) → AllAgree (stmts f c n) (stmts g c n)
  unfolding stmts
  agree_stmts c n ts = agree (f c n ts) (g c n ts) _ _ (h c n ts) (λ x. agree_many begins_stmt (next_stmt f c) (next_stmt g c) (agree_next c) (suc (length x.1)) x.0 x.1)

  agree_to_dedent : (c : Context) (n : ℕ) → AllAgree (stmts_to_dedent f c n) (stmts_to_dedent g c n)
  unfolding stmts_to_dedent
  agree_to_dedent c n ts = agree (stmts f c n ts) (stmts g c n ts) _ _ (agree_stmts c n ts) (λ x. same (dedent x.1 >>= λ u. given _ u.1))

  agree_indented : (c : Context) (n : ℕ) → AllAgree (indented f c n) (indented g c n)
  unfolding indented
  agree_indented c n ts = agree (indent ts) (indent ts) _ _ (same (indent ts)) (λ u. agree_to_dedent c n u.1)

  agree_block : (c : Context) (n : ℕ) → AllAgree (block f room c n) (block g (suc room) c n)
  unfolding block
  agree_block c n [] = agree_line_block c n room []
  agree_block c n (token.Newline ∷ ts) = agree_indented c n ts
  agree_block c n (t ∷ ts) = agree_line_block c n room (t ∷ ts)

  agree_colon_block : (c : Context) (n : ℕ) → AllAgree (colon_block f room c n) (colon_block g (suc room) c n)
  unfolding colon_block
  agree_colon_block c n ts = agree (colon ts) (colon ts) _ _ (same (colon ts)) (λ u. agree_block c n u.1)

  agree_branch : (c : Context) (n : ℕ) → AllAgree (branch f room c n) (branch g (suc room) c n)
  unfolding branch
  agree_branch c n ts = agree (expr room ts) (expr (suc room) ts) _ _ (agree_form room Whole ts) (λ e. agree (colon_block f room c n e.1) (colon_block g (suc room) c n e.1) _ _ (agree_colon_block c n e.1) (λ b. refl))

  agree_next_elif : (c : Context) (s : List Branch × ℕ) → AllAgree (next_elif f room c s) (next_elif g (suc room) c s)
  unfolding next_elif
  agree_next_elif c s [] = λ k. refl
  agree_next_elif c s (token.Elif ∷ ts) = agree (branch f room c s.1 ts) (branch g (suc room) c s.1 ts) _ _ (agree_branch c s.1 ts) (λ b. refl)
  agree_next_elif c s (t ∷ ts) = λ k. refl

  agree_branches : (c : Context) (n : ℕ) → AllAgree (branches f room c n) (branches g (suc room) c n)
  unfolding branches
  agree_branches c n ts = agree (branch f room c n ts) (branch g (suc room) c n ts) _ _ (agree_branch c n ts) (λ b. agree_many elif_ahead (next_elif f room c) (next_elif g (suc room) c) (agree_next_elif c) (suc (length b.1)) (b.0.0 ∷ [], b.0.1) b.1)

  agree_else : (c : Context) (n : ℕ) → AllAgree (else_part f room c n) (else_part g (suc room) c n)
  unfolding else_part
  agree_else c n [] = refl
  agree_else c n (token.Else ∷ ts) = agree_colon_block c n ts
  agree_else c n (t ∷ ts) = refl

  agree_finally : (c : Context) (n : ℕ) → AllAgree (finally_part f room c n) (finally_part g (suc room) c n)
  unfolding finally_part
  agree_finally c n [] = refl
  agree_finally c n (token.Finally ∷ ts) = agree_colon_block (within_finally c) n ts
  agree_finally c n (t ∷ ts) = refl

  agree_if : (c : Context) (n : ℕ) → AllAgree (if_rest f room c n) (if_rest g (suc room) c n)
  unfolding if_rest
  agree_if c n ts = agree (branches f room c n ts) (branches g (suc room) c n ts) _ _ (agree_branches c n ts) (λ b. agree (else_part f room c b.0.1 b.1) (else_part g (suc room) c b.0.1 b.1) _ _ (agree_else c b.0.1 b.1) (λ ss. refl))

  agree_while : (c : Context) (n : ℕ) → AllAgree (while_rest f room c n) (while_rest g (suc room) c n)
  unfolding while_rest
  agree_while c n ts = agree (branch f room (within_loop c) n ts) (branch g (suc room) (within_loop c) n ts) _ _ (agree_branch (within_loop c) n ts) (λ b. refl)

  agree_caught : AllAgree (caught room) (caught (suc room))
  unfolding caught
  agree_caught ts = agree (expr room ts) (expr (suc room) ts) _ _ (agree_form room Whole ts) (λ e. same (bound e.1 >>= λ b. given _ b.1))

  agree_handler_rest : (c : Context) (s : Handlers) → AllAgree (handler_rest f room c s) (handler_rest g (suc room) c s)
  unfolding handler_rest
  agree_handler_rest c s [] = agree (caught room []) (caught (suc room) []) _ _ (agree_caught []) (λ k. agree (colon_block f room c s.next k.1) (colon_block g (suc room) c s.next k.1) _ _ (agree_colon_block c s.next k.1) (λ b. refl))
  agree_handler_rest c s (token.Colon ∷ ts) = agree (block f room c s.next ts) (block g (suc room) c s.next ts) _ _ (agree_block c s.next ts) (λ b. refl)
  agree_handler_rest c s (t ∷ ts) = agree (caught room (t ∷ ts)) (caught (suc room) (t ∷ ts)) _ _ (agree_caught (t ∷ ts)) (λ k. agree (colon_block f room c s.next k.1) (colon_block g (suc room) c s.next k.1) _ _ (agree_colon_block c s.next k.1) (λ b. refl))

  agree_next_handler : (c : Context) (s : Handlers) → AllAgree (next_handler f room c s) (next_handler g (suc room) c s)
  unfolding next_handler
  agree_next_handler c s [] = λ k. refl
  agree_next_handler c s (token.Except ∷ ts) = agree_handler_rest c s ts
  agree_next_handler c s (t ∷ ts) = λ k. refl

  agree_handlers : (c : Context) (n : ℕ) → AllAgree (handlers f room c n) (handlers g (suc room) c n)
  unfolding handlers
  agree_handlers c n ts = agree (next_handler f room c (record { found = []; next = n; is_open = true }) ts) (next_handler g (suc room) c (record { found = []; next = n; is_open = true }) ts) _ _ (agree_next_handler c (record { found = []; next = n; is_open = true }) ts) (λ s. agree_many begins_handler (next_handler f room c) (next_handler g (suc room) c) (agree_next_handler c) (suc (length s.1)) s.0 s.1)

  agree_ends : (c : Context) (n : ℕ) → AllAgree (try_ends f room c n) (try_ends g (suc room) c n)
  unfolding try_ends
  agree_ends c n ts = agree (else_part f room c n ts) (else_part g (suc room) c n ts) _ _ (agree_else c n ts) (λ e. agree (finally_part f room c e.0.1 e.1) (finally_part g (suc room) c e.0.1 e.1) _ _ (agree_finally c e.0.1 e.1) (λ x. refl))

  agree_after_try : (c : Context) (b : Stmts) → AllAgree (after_try f room c b) (after_try g (suc room) c b)
  unfolding after_try
  agree_after_try c b [] = agree (handlers f room c b.1 []) (handlers g (suc room) c b.1 []) _ _ (agree_handlers c b.1 []) (λ s. agree (try_ends f room c s.0.next s.1) (try_ends g (suc room) c s.0.next s.1) _ _ (agree_ends c s.0.next s.1) (λ e. refl))
  agree_after_try c b (token.Finally ∷ ts) = agree (colon_block f room (within_finally c) b.1 ts) (colon_block g (suc room) (within_finally c) b.1 ts) _ _ (agree_colon_block (within_finally c) b.1 ts) (λ x. refl)
  agree_after_try c b (t ∷ ts) = agree (handlers f room c b.1 (t ∷ ts)) (handlers g (suc room) c b.1 (t ∷ ts)) _ _ (agree_handlers c b.1 (t ∷ ts)) (λ s. agree (try_ends f room c s.0.next s.1) (try_ends g (suc room) c s.0.next s.1) _ _ (agree_ends c s.0.next s.1) (λ e. refl))

  agree_try : (c : Context) (n : ℕ) → AllAgree (try_rest f room c n) (try_rest g (suc room) c n)
  unfolding try_rest
  agree_try c n ts = agree (colon_block f room c n ts) (colon_block g (suc room) c n ts) _ _ (agree_colon_block c n ts) (λ b. agree_after_try c b.0 b.1)

  agree_indented_body : (names : List (List ℕ)) (n : ℕ) → AllAgree (indented_body f names n) (indented_body g names n)
  unfolding indented_body
  agree_indented_body names n ts = agree (globals names ts) (globals names ts) _ _ (same (globals names ts)) (λ x. agree (stmts_to_dedent f within_function n x.1) (stmts_to_dedent g within_function n x.1) _ _ (agree_to_dedent within_function n x.1) (λ b. refl))

  agree_after_newline : (names : List (List ℕ)) (n : ℕ) → AllAgree (after_newline f names n) (after_newline g names n)
  unfolding after_newline
  agree_after_newline names n ts = agree (indent ts) (indent ts) _ _ (same (indent ts)) (λ u. agree_indented_body names n u.1)

  agree_body : (names : List (List ℕ)) (n : ℕ) → AllAgree (function_body f room names n) (function_body g (suc room) names n)
  unfolding function_body
  agree_body names n [] = agree (line_block within_function n room []) (line_block within_function n (suc room) []) _ _ (agree_line_block within_function n room []) (λ b. refl)
  agree_body names n (token.Newline ∷ ts) = agree_after_newline names n ts
  agree_body names n (t ∷ ts) = agree (line_block within_function n room (t ∷ ts)) (line_block within_function n (suc room) (t ∷ ts)) _ _ (agree_line_block within_function n room (t ∷ ts)) (λ b. refl)

  agree_def : (n : ℕ) → AllAgree (def_rest f room n) (def_rest g (suc room) n)
  unfolding def_rest
  agree_def n ts = agree (signature ts) (signature ts) _ _ (same (signature ts)) (λ x. agree (colon x.1) (colon x.1) _ _ (same (colon x.1)) (λ u. agree (function_body f room x.0.1 (suc n) u.1) (function_body g (suc room) x.0.1 (suc n) u.1) _ _ (agree_body x.0.1 (suc n) u.1) (λ b. refl)))

agree_either : (b : Bool) (q r s : Read Lexeme Stmts) → Agrees q r → Agrees (if b then s else q) (if b then s else r)
agree_either true q r s h = same s
agree_either false q r s h = h

pub agree_stmt : (room : ℕ) (c : Context) (n : ℕ) → AllAgree (stmt room c n) (stmt (suc room) c n)
unfolding stmt
agree_stmt zero c n [] = agree_line_block c n 0 []
agree_stmt (suc room) c n [] = agree_line_block c n (suc room) []
agree_stmt zero c n (token.If ∷ ts) = λ k. absurd (k refl)
agree_stmt (suc room) c n (token.If ∷ ts) = agree_if (stmt room) (stmt (suc room)) room (λ d m us. agree_stmt room d m us) c n ts
agree_stmt zero c n (token.While ∷ ts) = λ k. absurd (k refl)
agree_stmt (suc room) c n (token.While ∷ ts) = agree_while (stmt room) (stmt (suc room)) room (λ d m us. agree_stmt room d m us) c n ts
agree_stmt zero c n (token.Try ∷ ts) = λ k. absurd (k refl)
agree_stmt (suc room) c n (token.Try ∷ ts) = agree_try (stmt room) (stmt (suc room)) room (λ d m us. agree_stmt room d m us) c n ts
agree_stmt zero c n (token.Def ∷ ts) = agree_either c.in_function (too_deep (token.Def ∷ ts)) _ (refused (token.Def ∷ ts)) (λ k. absurd (k refl))
agree_stmt (suc room) c n (token.Def ∷ ts) = agree_either c.in_function _ _ (refused (token.Def ∷ ts)) (agree_def (stmt room) (stmt (suc room)) room (λ d m us. agree_stmt room d m us) n ts)
agree_stmt zero c n (t ∷ ts) = agree_line_block c n 0 (t ∷ ts)
agree_stmt (suc room) c n (t ∷ ts) = agree_line_block c n (suc room) (t ∷ ts)

pub agree_script : (room : ℕ) → AllAgree (script room) (script (suc room))
unfolding script
agree_script room ts = agree (rounds begins_stmt (next_stmt (stmt room) top) ([], 0) ts) (rounds begins_stmt (next_stmt (stmt (suc room)) top) ([], 0) ts) _ _ (agree_many begins_stmt (next_stmt (stmt room) top) (next_stmt (stmt (suc room)) top) (agree_next (stmt room) (stmt (suc room)) room (agree_stmt room) top) (suc (length ts)) ([], 0) ts) (λ s. same (end s.1 >>= λ u. given _ u.1))
