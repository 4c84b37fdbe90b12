use Rattle.std.proofs.Common.{◌≡◌, Option, Err, ap}
use Rattle.meaning_runs.specs.Runs.{Run}
use Rattle.path_finder.specs.declared.words.Found.{Found}
use Rattle.find_load.specs.declared.words.In.TheVariants as given
use Rattle.drive_account.specs.declared.port.Halt.TheVariants.{Refused}
use Rattle.py_run.specs.Turns.{feeds}
use Rattle.py_run.proofs.Finding.{in_search_end}
use Rattle.py_run.proofs.Results.{if_ok, if_err, if_ok_both}
use Rattle.py_run.proofs.find.find.Goals as goal

pub seek-requires-clause-ready : goal.seek-requires-clause-ready
seek-requires-clause-ready g c = c.requires.stood.ready

pub seek-requires-clause-safe : goal.seek-requires-clause-safe
seek-requires-clause-safe g c = ((λ answer. feeds c.args.execution.now c.args.procedure (given.Found answer)), c.requires.stood.safe)

pub returns-in-Ok : goal.returns-in-Ok
returns-in-Ok g c =
    let k : Option Found → Run = λ answer. feeds c.args.execution.now c.args.procedure (given.Found answer) in
    record {
      stays = c.seek.ensures.stays;
      turned = if_ok_both c.found.result c.found.ensures.after c.found.ensures.counts (λ turn after counts. record {
        moves = λ whole fuel a. after (g.T.Tree.files c.args.tree.now) whole fuel (g.P.Port.view c.seek.new.port).mine (c.in-Ok.ensures.searched.moves k whole fuel a);
        counts = counts _ _ c.in-Ok.ensures.searched.counts;
      });
      kept = if_ok c.found.result (λ _. c.in-Ok.ensures.kept);
      holds = if_ok c.found.result (λ _. rw c.found.ensures.held (c.in-Ok.ensures.holds c.args.execution.now.held c.requires.stood.holds));
      part = if_err c.found.result (λ _. λ whole fuel a. in_search_end c.seek.new.budget k c.in-Ok.over (c.in-Ok.ensures.searched.moves k whole fuel a));
      refused = λ is. absurd (c.found.ensures.refused is);
      asked = c.seek.ensures.asked;
    }

pub returns-in-Err : goal.returns-in-Err
returns-in-Err g c =
    let k : Option Found → Run = λ answer. feeds c.args.execution.now c.args.procedure (given.Found answer) in
    record {
      stays = c.seek.ensures.stays;
      turned = tt;
      kept = tt;
      holds = tt;
      part = λ whole fuel a. c.in-Err.ensures.part k whole fuel a;
      refused = λ is whole fuel a.
          let same : c.in-Err.halt ≡ Refused = cc in
          c.in-Err.ensures.refused (ap Err same) k whole fuel a;
      asked = c.seek.ensures.asked;
    }
