use Rattle.program_rounds.proofs.Begun.{scripts_next}
use Rattle.program_rounds.proofs.begin.scripts_of.Goals as goal

pub loop-round-preserved : goal.loop-round-preserved
loop-round-preserved c =
    scripts_next c.args.rounds.now c.loop-round.round-index c.round-item.result c.loop-round.scripts c.as_slice.result.now c.add_texts.new.texts c.loop-round-test.true c.round-item.is c.loop-round.invariant c.as_slice.ensures c.in_ok-add_texts.ensures
