use Rattle.std.proofs.Common.{◌∙◌, sym, ap, [], ◌∷◌, ◌++◌, append_assoc}
use Rattle.std.proofs.lemmas.Result.{on_ok_weaker}
use Rattle.source_functions.specs.Functions.{in_stmt, in_stmts, in_handlers}
use Rattle.source_functions.proofs.Layers.{in_branch, in_handler, in_function, try_put}
use Rattle.source_functions.proofs.collect.+forms.Goals as goal

pub put_branch-returns : goal.put_branch-returns
put_branch-returns t c =
    on_ok_weaker c.put_stmts.result (λ e. e ∙ ap (λ l. c.args.found.now ++ l) (sym (in_branch c.args.branch.now))) (rw c.deref.ensures at c.put_stmts.ensures)

pub put_handler-returns : goal.put_handler-returns
put_handler-returns t c =
    on_ok_weaker c.put_stmts.result (λ e. e ∙ ap (λ l. c.args.found.now ++ l) (sym (in_handler c.args.handler.now))) (rw c.deref.ensures at c.put_stmts.ensures)

pub put_function-returns : goal.put_function-returns
put_function-returns t c =
    let f = c.args.function.now in
    on_ok_weaker c.put_stmts.result
    (λ e. e ∙ ap (λ l. l ++ in_stmts f.body) c.in_ok-put_one.ensures ∙ append_assoc c.args.found.now (f ∷ []) (in_stmts f.body) ∙ ap (λ l. c.args.found.now ++ l) (sym (in_function f)))
    (rw (c.deref-2.ensures, c.deref.ensures) at c.put_stmts.ensures)

pub put_stmt-returns-in_ok-put_stmts-in-Try-2 : goal.put_stmt-returns-in_ok-put_stmts-in-Try-2
put_stmt-returns-in_ok-put_stmts-in-Try-2 t c =
    on_ok_weaker c.put_stmts-in-Try-3.result
    (λ e. e ∙ ap (λ l. l ++ in_stmts c.in-Try.finally) ((rw c.deref-in-Try-3.ensures at c.in_ok-put_stmts-in-Try-2.ensures) ∙ ap (λ l. l ++ in_stmts c.in-Try.otherwise) ((rw c.deref-in-Try-2.ensures at c.in_ok-put_handlers-in-Try.ensures) ∙ ap (λ l. l ++ in_handlers c.in-Try.handlers) (rw c.deref-in-Try.ensures at c.in_ok-put_stmts-in-Try.ensures)))
    ∙ try_put c.args.found.now c.in-Try.body c.in-Try.handlers c.in-Try.otherwise c.in-Try.finally ∙ ap (λ s. c.args.found.now ++ in_stmt s) (sym c.in-Try.is))
    (rw c.deref-in-Try-4.ensures at c.put_stmts-in-Try-3.ensures)
