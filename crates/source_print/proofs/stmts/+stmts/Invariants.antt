use Rattle.std.proofs.Common.{◌≡◌, ◌++◌, map, take}
use Rattle.source_print.specs.Statements.{branches, in_order, branch_tokens, handler_tokens, stmts_tokens}
use Rattle.source_print.proofs.stmts.+stmts.Given as goal

abbrev pub invariant-put_branches-loop-n : goal.invariant-put_branches-loop-n
invariant-put_branches-loop-n l = l.out ≡ l.initial.out ++ branches (map branch_tokens (take l.n l.branches))

abbrev pub invariant-put_handlers-loop-handler : goal.invariant-put_handlers-loop-handler
invariant-put_handlers-loop-handler l = l.out ≡ l.initial.out ++ in_order (map handler_tokens (take l.handler-index l.handler-items))

abbrev pub invariant-put_stmts-loop-stmt : goal.invariant-put_stmts-loop-stmt
invariant-put_stmts-loop-stmt l = l.out ≡ l.initial.out ++ stmts_tokens (take l.stmt-index l.stmt-items)
