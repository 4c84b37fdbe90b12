use Rattle.std.proofs.Common.{rules}
use Rattle.drive_straight.proofs.AtOnce.{valued}
use Rattle.drive_straight.proofs.blocks.value_in_statement.Goals as goal

pub returns-in-Some-checked_add : goal.returns-in-Some-checked_add
returns-in-Some-checked_add c =
    valued c.args.execution.now c.args.expr.now c.in-Some.field-0.given c.in-Some.field-0.units c.in-Some-checked_add.units c.in-Value.value c.in-Value.is c.in-Some-checked_add.ensures.1 (search rules)
