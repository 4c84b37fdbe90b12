use Rattle.std.proofs.Common.{◌∙◌, refl, rules, sym}
use Rattle.drive_straight.proofs.AtOnce.{global_asked, named}
use Rattle.drive_straight.proofs.names.ask.Goals as goal

pub returns-clause-moves : goal.returns-clause-moves
returns-clause-moves c =
    global_asked c.args.execution.now
    (record { budget = c.afford.new.budget; held = c.args.execution.now.held; thread = c.args.execution.now.thread; work = c.push.new.self })
    c.args.expr c.in_ok-name-in-Name.name c.afford.new.budget
    (named c.args.expr c.in-Name.name c.in_ok-name-in-Name.name (sym c.get.ensures ∙ c.in-Name.is) (search rules)) (search rules) (c.if-not-afford.ensures.paid refl) (search rules)
