use Rattle.std.proofs.Common.{rules}
use Rattle.py_value.specs.declared.value.Value.TheVariants as values
use Rattle.drive_straight.proofs.Operands.{member_applied, same_run}
use Rattle.drive_straight.proofs.gathering.member.Goals as goal

pub returns-clause-moves : goal.returns-clause-moves
returns-clause-moves c =
    let old = c.args.execution.now in
    same_run old.budget _ _ (member_applied old (record { budget = old.budget; held = old.held; thread = old.thread; work = c.push.new.self })
    c.args.expr c.args.values (values.Module c.in_ok-module-in-Some-Module.«module») c.args.name c.requires.form (search rules) (search rules) (search rules))
