use Rattle.program_check.proofs.Saying.{plain_stops}
use Rattle.program_check.proofs.Fitting.{plain_fit, plain_opens}
use Rattle.program_check.proofs.opened.open_plain.Goals as goal

pub returns-in-Ok-open_all-clause-ok : goal.returns-in-Ok-open_all-clause-ok
returns-in-Ok-open_all-clause-ok g c =
    plain_opens (g.T.Tree.files c.args.tree.now) c.args.run.now c.in-Ok.rounds c.as_slice.result.now c.in-Ok-open_all.texts c.in-Ok.ensures c.as_slice.ensures c.requires.plain c.in-Ok-open_all.ensures.ok

pub returns-in-Ok-open_all-clause-fit : goal.returns-in-Ok-open_all-clause-fit
returns-in-Ok-open_all-clause-fit g c =
    plain_fit (g.T.Tree.files c.args.tree.now) c.args.run.now c.in-Ok.rounds c.as_slice.result.now c.in-Ok-open_all.texts c.in-Ok.ensures c.as_slice.ensures c.requires.few c.in-Ok-open_all.ensures.ok

pub returns-in-Err-clause-err : goal.returns-in-Err-clause-err
returns-in-Err-clause-err g c =
    plain_stops (g.T.Tree.files c.args.tree.now) c.args.run.now c.as_slice.result.now _ _ c.in-Err.why c.requires.plain c.as_slice.ensures c.in-Err.ensures.err
