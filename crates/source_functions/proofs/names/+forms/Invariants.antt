use Rattle.std.proofs.Common.{◌≡◌, ◌++◌, take}
use Rattle.source_functions.specs.Binding.{stmts_names, branches_names, handlers_names}
use Rattle.source_functions.proofs.names.+forms.Given as goal

abbrev pub invariant-put_branches-loop-branch : goal.invariant-put_branches-loop-branch
invariant-put_branches-loop-branch l = l.names ≡ l.initial.names ++ branches_names (take l.branch-index l.branch-items)

abbrev pub invariant-put_handlers-loop-handler : goal.invariant-put_handlers-loop-handler
invariant-put_handlers-loop-handler l = l.names ≡ l.initial.names ++ handlers_names (take l.handler-index l.handler-items)

abbrev pub invariant-put_stmts-loop-stmt : goal.invariant-put_stmts-loop-stmt
invariant-put_stmts-loop-stmt l = l.names ≡ l.initial.names ++ stmts_names (take l.stmt-index l.stmt-items)
