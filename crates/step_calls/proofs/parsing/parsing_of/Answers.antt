use Rattle.step_calls.proofs.Told.{faulty}
use Rattle.step_calls.proofs.parsing.parsing_of.Goals as goal

pub returns-in_ok-parsing_error-in-Err : goal.returns-in_ok-parsing_error-in-Err
returns-in_ok-parsing_error-in-Err c =
    faulty c.args.text.now c.in-Err.error c.in_ok-parsing_error-in-Err.field-0 c.in-Err.ensures.is c.in_ok-parsing_error-in-Err.ensures
