use Rattle.machine_events.specs.declared.event.Event.TheVariants as ev
use Rattle.drive_account.proofs.Giving.{lists_grow}
use Rattle.drive_account.proofs.end.end.Goals as goal

pub returns-in-Ok-clause-grows : goal.returns-in-Ok-clause-grows
returns-in-Ok-clause-grows g c = lists_grow (g.P.Port.view c.args.port.now).mine (g.P.Port.view c.call.new.self).mine (ev.End c.args.how c.args.spent) c.in-Ok.reply c.in-Ok.ensures.ok.mine
