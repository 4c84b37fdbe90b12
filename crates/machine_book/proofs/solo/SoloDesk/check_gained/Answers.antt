use Rattle.machine_book.proofs.Histories.{only_of}
use Rattle.machine_book.proofs.solo.SoloDesk.check_gained.Goals as goal

pub returns : goal.returns
returns g c = only_of _ _ c.args.self.now.gained
