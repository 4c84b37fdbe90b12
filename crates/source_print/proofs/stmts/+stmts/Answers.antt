use Rattle.std.proofs.Common.{◌∙◌, sym, ap, ◌++◌, ◌∷◌, [], map}
use Rattle.py_syntax.specs.declared.lexeme.Lexeme.TheVariants as token
use Rattle.source_print.specs.Statements.{clause, block, in_order, stmt_tokens, handler_tokens}
use Rattle.source_print.proofs.StatementLexemes.{on_ok, not_both, if_put, try_put, clause_put}
use Rattle.source_print.proofs.stmts.+stmts.Goals as goal

pub put_clause-returns : goal.put_clause-returns
put_clause-returns t c =
    on_ok c.put_block.result
    (λ e. e ∙ ap (λ ts. ts ++ block (map stmt_tokens c.args.stmts.now)) (c.in_ok-put-2.ensures ∙ ap (λ ts. ts ++ token.Colon ∷ []) c.in_ok-put.ensures) ∙ clause_put c.args.out.now c.args.word c.args.stmts.now (λ is. not_both c.is_empty.result (c.is_empty.ensures.1 is) c.if-is_empty.false))
    c.put_block.ensures

pub put_stmt-returns-in_ok-put_branches-in-If : goal.put_stmt-returns-in_ok-put_branches-in-If
put_stmt-returns-in_ok-put_branches-in-If t c =
    on_ok c.put_clause.result
    (λ e. e ∙ ap (λ ts. ts ++ clause token.Else (map stmt_tokens c.in-If.otherwise)) (rw c.deref-in-If.ensures at c.in_ok-put_branches-in-If.ensures) ∙ if_put c.args.out.now c.in-If.branches c.in-If.otherwise ∙ ap (λ s. c.args.out.now ++ stmt_tokens s) (sym c.in-If.is))
    (rw c.deref-in-If-2.ensures at c.put_clause.ensures)

pub put_stmt-returns-in_ok-put_clause-in-Try : goal.put_stmt-returns-in_ok-put_clause-in-Try
put_stmt-returns-in_ok-put_clause-in-Try t c =
    on_ok c.put_clause-in-Try-2.result
    (λ e. e ∙ ap (λ ts. ts ++ clause token.Finally (map stmt_tokens c.in-Try.finally)) ((rw c.deref-in-Try-3.ensures at c.in_ok-put_clause-in-Try.ensures) ∙ ap (λ ts. ts ++ clause token.Else (map stmt_tokens c.in-Try.otherwise)) ((rw c.deref-in-Try-2.ensures at c.in_ok-put_handlers-in-Try.ensures) ∙ ap (λ ts. ts ++ in_order (map handler_tokens c.in-Try.handlers)) (rw c.deref-in-Try.ensures at c.in_ok-put_try-in-Try.ensures)))
    ∙ try_put c.args.out.now c.in-Try.body c.in-Try.handlers c.in-Try.otherwise c.in-Try.finally ∙ ap (λ s. c.args.out.now ++ stmt_tokens s) (sym c.in-Try.is))
    (rw c.deref-in-Try-4.ensures at c.put_clause-in-Try-2.ensures)
