use Rattle.program_run.proofs.answer.unread.Goals as goal

pub returns-clause-leaves : goal.returns-clause-leaves
returns-clause-leaves g c = λ old new out before after. c.tell.ensures.leaves _ old new c.joined-line.ensures out before after
