use Rattle.report_questions.proofs.Faulty.{faulted}
use Rattle.report_questions.proofs.sources.refused_questions.Goals as goal

pub returns : goal.returns
returns c = faulted c.args.home.now c.args.src.now c.in-Err.error c.fault_questions.result c.in-Err.ensures.is c.fault_questions.ensures
