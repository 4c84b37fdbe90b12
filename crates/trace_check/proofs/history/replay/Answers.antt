use Rattle.std.proofs.Common.{arith}
use Rattle.trace_check.proofs.Replaying.{up_to_tested}
use Rattle.trace_check.proofs.history.replay.Goals as goal

pub loop-entry-preserved : goal.loop-entry-preserved
loop-entry-preserved c = (
  up_to_tested c.args.machine c.loop-entry.machine c.fault.new.machine c.args.entries.now c.loop-entry.entry-index c.entry-item.result c.in_ok-why.field-0 c.in_default.not-Some c.in_ok-why.ensures
      c.loop-entry.invariant.0 c.loop-entry-test.true c.entry-item.is,
  omega (arith, c.loop-entry.invariant.1),
)
