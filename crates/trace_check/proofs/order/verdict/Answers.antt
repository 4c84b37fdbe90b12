use Rattle.std.proofs.Common.{refl}
use Rattle.trace_check.proofs.order.verdict.Goals as goal

pub returns : goal.returns
returns c = c.verdict_by.ensures c.args.entries.now refl
