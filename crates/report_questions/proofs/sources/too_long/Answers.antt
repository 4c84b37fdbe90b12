use Rattle.report_questions.proofs.Faulty.{too_long_asks}
use Rattle.report_questions.proofs.sources.too_long.Goals as goal

pub returns : goal.returns
returns c = λ home src long. too_long_asks home src c.fault_alone.result long c.fault_alone.ensures
