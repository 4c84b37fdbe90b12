use Rattle.drive_round.proofs.Turning.{is_run}
use Rattle.drive_round.proofs.laws.rounds_have_one_history.Goals as goal

pub returns : goal.returns
returns g c = is_run
