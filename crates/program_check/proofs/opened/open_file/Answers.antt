use Rattle.std.proofs.Common.{List, sym, subst}
use Rattle.words_rounds.specs.declared.rounds.Round.{Round}
use Rattle.program_rounds.specs.Rounds.{AreBelowRoot}
use Rattle.program_rounds.proofs.Answering.{below_by}
use Rattle.program_check.proofs.Saying.{file_stops, round_stops}
use Rattle.program_check.proofs.Fitting.{file_fit, file_opens}
use Rattle.program_check.proofs.opened.open_file.Goals as goal

pub open_rounds-requires-after_bounds : goal.open_rounds-requires-after_bounds
open_rounds-requires-after_bounds g c κs within = subst (λ (r : List Round). AreBelowRoot r) (sym c.as_slice.ensures) (below_by c.in-Ok.ensures.ok)

pub returns-in-Err-clause-err : goal.returns-in-Err-clause-err
returns-in-Err-clause-err g c = file_stops (g.T.Tree.files c.args.tree.now) c.args.run.now c.args.file.now _ _ c.in-Err.why c.requires.named c.in-Err.ensures.err

pub returns-in-Ok-open_rounds-clause-ok : goal.returns-in-Ok-open_rounds-clause-ok
returns-in-Ok-open_rounds-clause-ok g c =
    file_opens (g.T.Tree.files c.args.tree.now) (g.T.Tree.files c.rounds_of.new.tree) c.args.run.now c.args.file.now c.in-Ok.rounds.list c.as_slice.result.now c.in-Ok-open_rounds.texts c.rounds_of.ensures.files_stay c.requires.named c.as_slice.ensures
    c.in-Ok.ensures.ok c.in-Ok-open_rounds.ensures.ok

pub returns-in-Ok-open_rounds-clause-fit : goal.returns-in-Ok-open_rounds-clause-fit
returns-in-Ok-open_rounds-clause-fit g c =
    file_fit (g.T.Tree.files c.args.tree.now) (g.T.Tree.files c.rounds_of.new.tree) c.args.run.now c.args.file.now c.in-Ok.rounds.list c.as_slice.result.now c.in-Ok-open_rounds.texts c.rounds_of.ensures.files_stay c.requires.named c.as_slice.ensures
    c.in-Ok.ensures.ok c.in-Ok-open_rounds.ensures.ok

pub returns-in-Err-open_rounds-clause-err : goal.returns-in-Err-open_rounds-clause-err
returns-in-Err-open_rounds-clause-err g c =
    round_stops (g.T.Tree.files c.args.tree.now) (g.T.Tree.files c.rounds_of.new.tree) c.args.run.now c.args.file.now c.in-Ok.rounds.list c.as_slice.result.now _ _ _ c.in-Err-open_rounds.why c.rounds_of.ensures.files_stay c.rounds_of.ensures.faults_grow c.requires.named c.as_slice.ensures
    c.in-Ok.ensures.ok c.in-Err-open_rounds.ensures.err
