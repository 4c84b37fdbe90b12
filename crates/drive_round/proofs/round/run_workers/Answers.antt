use Rattle.std.proofs.Common.{List, sym, subst}
use Rattle.std.specs.List.{AllZip}
use Rattle.drive_round.specs.declared.worker.Worker.{Worker}
use Rattle.drive_round.specs.Workers.{facts, Works}
use Rattle.drive_round.proofs.Places.{zip-length, taken-back}
use Rattle.drive_round.proofs.round.run_workers.Goals as goal

pub returns : goal.returns
returns g c =
    let seen = facts g.P.Program.run g.T.Tree.files g.T.Tree.faults g.T.Tree.lists in
    let R = Works c.args.room.now.fuel seen in
    let old = c.args.workers in
    let pairs : AllZip R old.items c.run_each.new.workers = subst (λ (l : List (Worker g.row.T.Denot g.row.P.Denot)). AllZip R l c.run_each.new.workers) c.as_mut_slice.ensures.value c.run_each.ensures in
    subst (AllZip R old.items) (sym (taken-back old.items c.run_each.new.workers old.len old.ok.0 (zip-length R _ _ pairs))) pairs
