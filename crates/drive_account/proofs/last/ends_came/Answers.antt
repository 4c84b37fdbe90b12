use Rattle.std.proofs.Common.{refl}
use Rattle.drive_account.proofs.Telling.{answers_came, answers_no_end}
use Rattle.drive_account.proofs.last.ends_came.Goals as goal

pub returns-then-budget-fuel-clause-answers : goal.returns-then-budget-fuel-clause-answers
returns-then-budget-fuel-clause-answers c = λ files run here.
    answers_no_end files c.args.port.now.number run c.args.fuel c.args.budget c.args.port.now.own.now c.args.port.now.at c.args.flow c.parts.result c.if-budget-fuel.true here c.parts.ensures.ok

pub returns-clause-answers : goal.returns-clause-answers
returns-clause-answers c = λ files run here.
    let old = c.args.port.now in
    let new = c.came-made.new.port in
    let later = c.came-made.ensures.stays.later new (refl, λ met. met) in
    answers_came files old.number run c.args.fuel c.args.budget old.own.now new.own.now old.at new.at new.misfit c.args.flow c.came-made.result c.told.result c.if-budget-fuel.false here later.0 later.1
    c.came-made.ensures.ends c.came-made.ensures.err c.came-made.ensures.refused c.told.ensures.ok
