use Rattle.std.proofs.Common.{◌≡◌, false, Some, arith, rules}
use Rattle.std.proofs.lemmas.Grind.{common_steps}
use Rattle.source_combinators.specs.Reading.{head_of}
use Rattle.py_syntax.specs.declared.lexeme.Lexeme.TheVariants as token
use Rattle.source_spec_statements.specs.Reading.{stmt}
use Rattle.source_parse_statements.specs.Views.{stmts_of, caught_of, handlers_of}
use Rattle.source_parse_statements.proofs.Levels.{gives_if, gives_while, gives_try, gives_line, opens, is_colon, no_first, handler_read}
use Rattle.source_parse_statements.proofs.statements.+stmt.Goals.{handler_rest-in_default-via-then-tokens-lt1, handler_rest-in_default-via-else-tokens-lt1+in-Name-1, stmt-in_default-via-then-tokens-lt1, stmt-in_default-via-else-tokens-lt1+in-Name-1}
use Rattle.source_parse_statements.proofs.statements.+stmt.Goals as goal

pub stmt-returns-else-room-eq0-clause-value : goal.stmt-returns-else-room-eq0-clause-value
stmt-returns-else-room-eq0-clause-value t c =
    let first : head_of c.args.tokens.now ≡ Some token.If = first_of (search rules, grind (arith, common_steps)) in
    gives_if c.if_rest.result c.args.room c.args.context c.args.number c.args.tokens.now c.if-room-eq0.false first c.if_rest.ensures.value

pub stmt-returns-else-room-eq0-2-clause-value : goal.stmt-returns-else-room-eq0-2-clause-value
stmt-returns-else-room-eq0-2-clause-value t c =
    let first : head_of c.args.tokens.now ≡ Some token.While = first_of (search rules, grind (arith, common_steps)) in
    gives_while c.while_rest.result c.args.room c.args.context c.args.number c.args.tokens.now c.if-room-eq0-2.false first c.while_rest.ensures.value

pub stmt-returns-else-room-eq0-3-clause-value : goal.stmt-returns-else-room-eq0-3-clause-value
stmt-returns-else-room-eq0-3-clause-value t c =
    let first : head_of c.args.tokens.now ≡ Some token.Try = first_of (search rules, grind (arith, common_steps)) in
    gives_try c.try_rest.result c.args.room c.args.context c.args.number c.args.tokens.now c.if-room-eq0-3.false first c.try_rest.ensures.value

pub stmt-returns-in_default-clause-value : goal.stmt-returns-in_default-clause-value
stmt-returns-in_default-clause-value t c =
    let none_opens : opens (head_of c.args.tokens.now) ≡ false = first_of (search rules, grind (arith, common_steps)) in
    gives_line c.line_block.result c.args.room c.args.context c.args.number c.args.tokens.now none_opens c.line_block.ensures.value

pub handler_rest-returns-in_ok-handlers-in_default-clause-value :
    goal.handler_rest-returns-in_ok-handlers-in_default-clause-value
handler_rest-returns-in_ok-handlers-in_default-clause-value t c =
    let no_colon : is_colon (head_of c.args.tokens.now) ≡ false =
    elim c.in_default.branch [
      | handler_rest-in_default-via-then-tokens-lt1 w ↦ first_of (search rules, search (rules, no_first), grind (arith, common_steps, no_first))
      | handler_rest-in_default-via-else-tokens-lt1+in-Name-1 w ↦ first_of (search rules, grind (arith, common_steps))
    ] in
    handler_read (stmt c.args.room) c.args.room c.args.context (handlers_of c.args.handlers) c.args.tokens.now c.in_ok-caught-in_default.rest.now c.in_ok-body-in_default.rest.now (caught_of c.in_ok-caught-in_default.caught) (stmts_of c.in_ok-body-in_default.body) (handlers_of c.in_ok-handlers-in_default.handlers) no_colon c.in_ok-caught-in_default.ensures.value c.in_ok-body-in_default.ensures.value c.in_ok-handlers-in_default.ensures
