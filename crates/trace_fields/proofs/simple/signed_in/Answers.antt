use Rattle.std.proofs.Common.{sym}
use Rattle.trace_fields.proofs.Signs.{no_text, not_parsed}
use Rattle.trace_fields.proofs.simple.signed_in.Goals as goal

pub returns-in_default : goal.returns-in_default
returns-in_default c = no_text c.args.field.now (c.in_default.ensures.cases.0)

pub returns-in-Err : goal.returns-in-Err
returns-in-Err c = not_parsed c.in-Ok.digits.now c.args.field.now c.in-Err.field-0 c.in-Ok.ensures.cases.0 c.in-Err.ensures.value.0
