use Rattle.std.proofs.Common.{◌≡◌, ℕ, ◌<◌, ◌≤◌, ◌+◌, ◌*◌, length}
use Rattle.source_combinators.specs.Many.{many}
use Rattle.source_spec_statements.specs.Reading as reading
use Rattle.source_parse_statements.specs.Views.{stmts_of, branches_of, handlers_of}
use Rattle.source_parse_statements.proofs.statements.+stmt.Given as goal

-- a statement takes one of room, and each form calls those that stand in it

abbrev pub decreases-stmt : goal.decreases-stmt
decreases-stmt l = l.room * 13

abbrev pub decreases-next_stmt : goal.decreases-next_stmt
decreases-next_stmt l = l.room * 13 + 1

abbrev pub decreases-stmts : goal.decreases-stmts
decreases-stmts l = l.room * 13 + 2

abbrev pub decreases-stmts_to_dedent : goal.decreases-stmts_to_dedent
decreases-stmts_to_dedent l = l.room * 13 + 3

abbrev pub decreases-indented : goal.decreases-indented
decreases-indented l = l.room * 13 + 4

abbrev pub decreases-block : goal.decreases-block
decreases-block l = l.room * 13 + 5

abbrev pub decreases-colon_block : goal.decreases-colon_block
decreases-colon_block l = l.room * 13 + 6

abbrev pub decreases-branch : goal.decreases-branch
decreases-branch l = l.room * 13 + 7

abbrev pub decreases-next_elif : goal.decreases-next_elif
decreases-next_elif l = l.room * 13 + 8

abbrev pub decreases-branches : goal.decreases-branches
decreases-branches l = l.room * 13 + 9

abbrev pub decreases-else_part : goal.decreases-else_part
decreases-else_part l = l.room * 13 + 7

abbrev pub decreases-finally_part : goal.decreases-finally_part
decreases-finally_part l = l.room * 13 + 7

abbrev pub decreases-if_rest : goal.decreases-if_rest
decreases-if_rest l = l.room * 13 + 10

abbrev pub decreases-while_rest : goal.decreases-while_rest
decreases-while_rest l = l.room * 13 + 10

abbrev pub decreases-handler_rest : goal.decreases-handler_rest
decreases-handler_rest l = l.room * 13 + 7

abbrev pub decreases-next_handler : goal.decreases-next_handler
decreases-next_handler l = l.room * 13 + 8

abbrev pub decreases-handlers : goal.decreases-handlers
decreases-handlers l = l.room * 13 + 9

abbrev pub decreases-try_ends : goal.decreases-try_ends
decreases-try_ends l = l.room * 13 + 8

abbrev pub decreases-only_finally : goal.decreases-only_finally
decreases-only_finally l = l.room * 13 + 7

abbrev pub decreases-with_handlers : goal.decreases-with_handlers
decreases-with_handlers l = l.room * 13 + 10

abbrev pub decreases-after_try : goal.decreases-after_try
decreases-after_try l = l.room * 13 + 11

abbrev pub decreases-try_rest : goal.decreases-try_rest
decreases-try_rest l = l.room * 13 + 12

abbrev pub decreases-indented_body : goal.decreases-indented_body
decreases-indented_body l = l.room * 13 + 4

abbrev pub decreases-after_newline : goal.decreases-after_newline
decreases-after_newline l = l.room * 13 + 5

abbrev pub decreases-function_body : goal.decreases-function_body
decreases-function_body l = l.room * 13 + 6

abbrev pub decreases-def_rest : goal.decreases-def_rest
decreases-def_rest l = l.room * 13 + 7

abbrev pub invariant-stmts-stmts : goal.invariant-stmts-stmts
invariant-stmts-stmts l = record {
  reads : (n : ℕ) × (length l.rest < n) × (many reading.begins_stmt (reading.next_stmt (reading.stmt l.room) l.context) n (stmts_of l.found) l.rest ≡ reading.stmts (reading.stmt l.room) l.context l.number l.tokens);
  shorter : length l.rest < length l.tokens;
}

abbrev pub decreases-stmts-stmts : goal.decreases-stmts-stmts
decreases-stmts-stmts l = length l.rest

abbrev pub invariant-branches-branches : goal.invariant-branches-branches
invariant-branches-branches l = record {
  reads : (n : ℕ) × (length l.rest < n) × (many reading.elif_ahead (reading.next_elif (reading.stmt l.room) l.room l.context) n (branches_of l.found) l.rest ≡ reading.branches (reading.stmt l.room) l.room l.context l.number l.tokens);
  shorter : length l.rest < length l.tokens;
}

abbrev pub decreases-branches-branches : goal.decreases-branches-branches
decreases-branches-branches l = length l.rest

abbrev pub invariant-handlers-handlers : goal.invariant-handlers-handlers
invariant-handlers-handlers l = record {
  reads : (n : ℕ) × (length l.rest < n) × (many reading.begins_handler (reading.next_handler (reading.stmt l.room) l.room l.context) n (handlers_of l.found) l.rest ≡ reading.handlers (reading.stmt l.room) l.room l.context l.number l.tokens);
  shorter : length l.rest < length l.tokens;
}

abbrev pub decreases-handlers-handlers : goal.decreases-handlers-handlers
decreases-handlers-handlers l = length l.rest
