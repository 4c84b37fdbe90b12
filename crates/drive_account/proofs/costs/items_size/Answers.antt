use Rattle.std.proofs.Common.{arith}
use Rattle.std.proofs.lemmas.Grind.{common_steps}
use Rattle.py_value.proofs.Sums.{sum_last}
use Rattle.drive_account.proofs.costs.items_size.Goals as goal

pub loop-item-preserved : goal.loop-item-preserved
loop-item-preserved c = grind (arith, common_steps, sum_last)
