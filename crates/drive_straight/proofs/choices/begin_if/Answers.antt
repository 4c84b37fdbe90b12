use Rattle.std.proofs.Common.{refl, rules, subst, sym}
use Rattle.py_frames.specs.declared.want.Want.TheVariants as want
use Rattle.py_frames.specs.declared.work.Item.{Item}
use Rattle.drive_account.specs.At.{At}
use Rattle.drive_straight.specs.Remains.{remains}
use Rattle.drive_straight.specs.declared.execution.Execution.{Execution}
use Rattle.drive_straight.proofs.Operands.{if_begins}
use Rattle.drive_straight.proofs.choices.begin_if.Goals as goal

pub returns-clause-moves : goal.returns-clause-moves
returns-clause-moves c = λ files whole fuel mine a.
    let mid : Execution = record { budget = c.afford.new.budget; held = c.args.execution.now.held; thread = c.args.execution.now.thread; work = c.push.new.self } in
    subst (λ (item : Item). At files whole fuel mine c.afford.new.budget (remains mid (want.Then item))) (sym c.in_ok-new-2.ensures)
    (if_begins c.args.execution.now mid c.args.stmts c.args.at c.args.branches c.args.otherwise c.afford.new.budget c.requires.form (c.if-not-afford.ensures.paid refl) (search rules) files whole fuel mine a)
