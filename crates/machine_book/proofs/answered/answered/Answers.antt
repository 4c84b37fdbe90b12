use Rattle.machine_laws.proofs.Fitting.{fits_step}
use Rattle.machine_book.proofs.answered.answered.Goals as goal

pub returns-then-only_reads-clause-fits : goal.returns-then-only_reads-clause-fits
returns-then-only_reads-clause-fits c =
    rw (c.in_ok-reply.ensures, c.requires.answer) (fits_step c.args.machine.now c.is_sound.ensures c.args.thread c.args.event.now c.requires.may)
