use Rattle.std.proofs.Common.{refl}
use Rattle.py_run.specs.Turns.{HasPlainValue}
use Rattle.py_run.proofs.Leading.{global_came, member_came}
use Rattle.py_run.proofs.working.is_plain.Goals as goal

pub returns-in-Global : goal.returns-in-Global
returns-in-Global c = λ h here.
    let p : HasPlainValue c.args.reply.now = c.has_plain_value.ensures h in
    rw (c.in-Global.is, p.is) (global_came here _ p.value p.plain)

pub returns-in-Member : goal.returns-in-Member
returns-in-Member c = λ h here.
    let p : HasPlainValue c.args.reply.now = c.has_plain_value-in-Member.ensures h in
    rw (c.in-Member.is, p.is) (member_came here _ _ _ p.value p.plain)

pub returns-in-Done : goal.returns-in-Done
returns-in-Done c = λ _ here. rw (c.in-Stored.is, c.in-Done.is) refl
