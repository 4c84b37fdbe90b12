use Rattle.std.proofs.Common.{refl, subst}
use Rattle.program_run.specs.declared.open.Unopened.{Unopened}
use Rattle.program_commands.specs.Converting.{Converts}
use Rattle.program_commands.specs.Opening.{NoTrace}
use Rattle.program_commands.proofs.trace_convert.unopened.Goals as goal

pub returns-in-Refused-clause-answers : goal.returns-in-Refused-clause-answers
returns-in-Refused-clause-answers g c = λ word old new why out before after.
    let is = subst (λ (x : Unopened). NoTrace old.files word old.faults new.faults x) c.in-Refused.is why in
    Converts.unopened is.0 c.in-Refused.line.items is.1 is.2 (c.tell.ensures.leaves c.in-Refused.line.items old new refl out before after)

pub returns-in-Unread-clause-answers : goal.returns-in-Unread-clause-answers
returns-in-Unread-clause-answers g c = λ word old new why out before after.
    let is = subst (λ (x : Unopened). NoTrace old.files word old.faults new.faults x) c.in-Unread.is why in
    Converts.unread is (c.tell-in-Unread.ensures.leaves _ old new c.joined-line.ensures out before after)
