use Rattle.std.proofs.Common.{arith}
use Rattle.std.proofs.lemmas.Grind.{common_steps}
use Rattle.py_value.proofs.Sums.{sum_last}
use Rattle.py_value.proofs.measures.+sizes.Goals as goal

pub size_of_all-loop-item-preserved : goal.size_of_all-loop-item-preserved
size_of_all-loop-item-preserved t c = grind (arith, common_steps, sum_last)
