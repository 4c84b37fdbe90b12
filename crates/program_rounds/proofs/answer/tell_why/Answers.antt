use Rattle.std.proofs.Common.{refl, sym, subst}
use Rattle.program_run.specs.declared.open.Unopened.{Unopened}
use Rattle.program_rounds.specs.Answers.{Tells}
use Rattle.program_rounds.proofs.answer.tell_why.Goals as goal

pub returns-in-Refused-clause-leaves : goal.returns-in-Refused-clause-leaves
returns-in-Refused-clause-leaves g c = λ old new out before after.
    subst (λ (why : Unopened). Tells why old new c.tell.result.status) (sym c.in-Refused.is) (c.tell.ensures.leaves c.in-Refused.line.items old new refl out before after)
