use Rattle.trace_book.proofs.Keeps.{stays_stopped}
use Rattle.trace_book.proofs.laws.stopped_stays.Goals as goal

pub returns : goal.returns
returns g c = stays_stopped
