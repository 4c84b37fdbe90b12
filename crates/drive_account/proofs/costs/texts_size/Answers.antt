use Rattle.std.proofs.Common.{arith}
use Rattle.std.proofs.lemmas.Grind.{common_steps}
use Rattle.drive_account.proofs.Sums.{texts_last}
use Rattle.drive_account.proofs.costs.texts_size.Goals as goal

pub loop-text-preserved : goal.loop-text-preserved
loop-text-preserved c = grind (arith, common_steps, texts_last)
