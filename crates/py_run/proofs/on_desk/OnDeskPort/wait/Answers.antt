use Rattle.machine_desk.proofs.Keeping.{continues_trans, ready_on}
use Rattle.py_run.proofs.on_desk.OnDeskPort.wait.Goals as goal

pub returns-in-Ok-clause-stays : goal.returns-in-Ok-clause-stays
returns-in-Ok-clause-stays g c = record { number = c.in-Ok.ensures.continues.number; ready = ready_on _ _ c.in-Ok.ensures.continues; later = λ q l. (continues_trans _ _ _ c.in-Ok.ensures.continues l.0, l.1) }

pub returns-in-Err-clause-stays : goal.returns-in-Err-clause-stays
returns-in-Err-clause-stays g c = record { number = c.in-Err.ensures.continues.number; ready = ready_on _ _ c.in-Err.ensures.continues; later = λ q l. (continues_trans _ _ _ c.in-Err.ensures.continues l.0, l.1) }
