use Rattle.std.proofs.Common.{arith}
use Rattle.std.proofs.lemmas.Grind.{common_steps}
use Rattle.py_value.proofs.Sums.{most_last}
use Rattle.py_value.proofs.measures.+nestings.Goals as goal

pub most_nesting_of-loop-item-preserved : goal.most_nesting_of-loop-item-preserved
most_nesting_of-loop-item-preserved t c = grind (arith, common_steps, most_last)
