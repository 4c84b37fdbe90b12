use Rattle.std.proofs.Common.{◌≡◌, ◌∙◌, ap, arith}
use Rattle.program_rounds.proofs.Opening.{below_at, files_next, stops_at_round, texts_next}
use Rattle.program_rounds.proofs.open.open_over.Goals as goal

pub open_round-requires : goal.open_round-requires
open_round-requires g c = below_at c.args.rounds.now c.loop-round.round-index c.round-item.result c.requires c.loop-round-test.true c.round-item.is

pub returns-in-Err-clause-err : goal.returns-in-Err-clause-err
returns-in-Err-clause-err g c =
    let inv = c.loop-round.invariant in
    stops_at_round _ c.args.rounds.now c.loop-round.round-index c.round-item.result c.loop-round-test.true c.round-item.is _ inv.files c.loop-round.texts inv.texts _ _ _ c.in-Err.why (let same = inv.faults in omega (arith, same)) c.in-Err.ensures.err

pub loop-round-preserved : goal.loop-round-preserved
loop-round-preserved g c =
    let inv = c.loop-round.invariant in
    record {
      files = files_next _ c.args.rounds.now c.loop-round.round-index c.round-item.result c.loop-round-test.true c.round-item.is _ inv.files c.loop-round.texts inv.texts _ c.in-Ok.ensures.files;
      faults = c.in-Ok.ensures.faults_stay ∙ inv.faults;
      lists = c.open_round.ensures.lists_stay ∙ inv.lists;
      texts = texts_next _ c.args.rounds.now c.loop-round.round-index c.round-item.result c.loop-round-test.true c.round-item.is _ inv.files c.loop-round.texts inv.texts _ c.in-Ok.ensures.ok;
    }
