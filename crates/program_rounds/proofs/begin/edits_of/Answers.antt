use Rattle.program_rounds.proofs.Begun.{edits_next}
use Rattle.program_rounds.proofs.begin.edits_of.Goals as goal

pub loop-round-preserved : goal.loop-round-preserved
loop-round-preserved c =
    edits_next c.args.rounds.now c.loop-round.round-index c.round-item.result c.loop-round.edits c.push.new.self c.as_slice.result.now c.in_ok-copied.field-0 c.loop-round-test.true c.round-item.is c.loop-round.invariant c.as_slice.ensures c.in_ok-copied.ensures c.in_ok-push.ensures.ok
