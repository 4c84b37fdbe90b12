use Rattle.import_report.proofs.Once.{folders_rise}
use Rattle.import_report.proofs.laws.folders_are_listed_once.Goals as goal

pub returns : goal.returns
returns c = folders_rise
