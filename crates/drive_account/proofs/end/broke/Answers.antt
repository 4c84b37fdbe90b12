use Rattle.drive_account.proofs.Giving.{end_idle}
use Rattle.drive_account.proofs.end.broke.Goals as goal

pub end-requires-clause-knows : goal.end-requires-clause-knows
end-requires-clause-knows g c = end_idle (g.P.Port.view c.give_up.new.port) c.give_up.new.held c.args.how c.args.spent c.in-Ok.ensures.idle c.in-Ok.ensures.free
