use Rattle.std.proofs.Common.{◌+◌, arith}
use Rattle.step_imports.proofs.Lists.{last_from}
use Rattle.step_imports.proofs.names.is_last.Goals as goal

pub returns : goal.returns
returns c = rw c.len-count.ensures (last_from c.args.parts.now (c.args.at + 1) (omega (arith, c.requires)))
