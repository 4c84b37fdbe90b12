use Rattle.std.proofs.Common.{◌≡◌, ◌++◌, take}
use Rattle.report_questions.specs.Statements.{in_stmts, in_branches, in_handlers}
use Rattle.report_questions.proofs.collect.+forms.Given as goal

abbrev pub invariant-put_branches-loop-branch : goal.invariant-put_branches-loop-branch
invariant-put_branches-loop-branch l = l.found ≡ l.initial.found ++ in_branches (take l.branch-index l.branch-items)

abbrev pub invariant-put_handlers-loop-handler : goal.invariant-put_handlers-loop-handler
invariant-put_handlers-loop-handler l = l.found ≡ l.initial.found ++ in_handlers (take l.handler-index l.handler-items)

abbrev pub invariant-put_stmts-loop-stmt : goal.invariant-put_stmts-loop-stmt
invariant-put_stmts-loop-stmt l = l.found ≡ l.initial.found ++ in_stmts (take l.stmt-index l.stmt-items)
