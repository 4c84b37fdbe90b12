use Rattle.std.proofs.Common.{arith}
use Rattle.program_rounds.proofs.Begun.{few_at, sizes_next}
use Rattle.program_rounds.proofs.begin.sizes_of.Goals as goal

pub size_of-requires : goal.size_of-requires
size_of-requires c =
    let few = c.requires.few in
    let here = few_at c.args.rounds.now c.loop-round.round-index c.round-item.result c.loop-round-test.true c.round-item.is in
    omega (arith, few, here)

pub loop-round-preserved : goal.loop-round-preserved
loop-round-preserved c =
    sizes_next c.args.rounds.now c.loop-round.round-index c.round-item.result c.loop-round.sizes c.push.new.self c.size_of.result c.loop-round-test.true c.round-item.is c.loop-round.invariant c.size_of.ensures c.in_ok-push.ensures.ok
