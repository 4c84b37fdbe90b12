use Rattle.std.proofs.Common.{◌≡◌, ◌∙◌, refl, sym, ap, subst}
use Rattle.program_run.specs.Sinks.{Moment}
use Rattle.program_run.specs.declared.open.Unopened.{Unopened}
use Rattle.program_run.specs.declared.report.Report.{Report}
use Rattle.program_check.specs.Checking.{Unmade}
use Rattle.program_check.proofs.call.unopened.Goals as goal

pub returns-in-Refused-clause-tells : goal.returns-in-Refused-clause-tells
returns-in-Refused-clause-tells g c = λ old new out before after.
    subst (λ (x : Unopened). Unmade x old new c.tell.result.status) (sym c.in-Refused.is) (c.tell.ensures.leaves c.in-Refused.line.items old new refl out before after)

pub returns-in-Unread-clause-tells : goal.returns-in-Unread-clause-tells
returns-in-Unread-clause-tells g c = λ old new out before after.
    subst (λ (x : Unopened). Unmade x old new c.tell-in-Unread.result.status) (sym c.in-Unread.is) (c.tell-in-Unread.ensures.leaves _ old new c.joined-line.ensures out before after)

pub returns-in-NoMemory-clause-tells : goal.returns-in-NoMemory-clause-tells
returns-in-NoMemory-clause-tells g c = λ old new out before after.
    subst (λ (x : Unopened). Unmade x old new c.without_run.result.status) (sym c.in-NoMemory.is)
    (record { is = ap (λ (r : Report). r.status) c.without_run.ensures; out = out; err = after ∙ sym before })
