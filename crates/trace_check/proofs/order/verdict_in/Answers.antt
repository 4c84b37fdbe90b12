use Rattle.trace_check.proofs.Splitting.{tells_itself}
use Rattle.trace_check.proofs.order.verdict_in.Goals as goal

pub returns : goal.returns
returns c = λ history same. c.verdict_by.ensures history (tells_itself c.args.threads.now history same)
