use Rattle.machine_desk.proofs.Keeping.{kept_next}
use Rattle.machine_desk.proofs.outlet.outlets_keep_up.Goals as goal

pub returns-clause-next : goal.returns-clause-next
returns-clause-next g c = kept_next g.O.Outlet.piece
