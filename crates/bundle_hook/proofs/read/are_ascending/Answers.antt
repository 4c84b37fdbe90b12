use Rattle.std.proofs.Common.{◌∙◌, sym}
use Rattle.bundle_hook.proofs.Orders.{ascending_to_end}
use Rattle.bundle_hook.proofs.read.are_ascending.Goals as goal

pub returns : goal.returns
returns c = sym (c.loop-i.invariant ∙ ascending_to_end c.args.entries.now c.loop-i.i c.loop-i-test.false)
