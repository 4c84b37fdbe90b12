use Rattle.std.proofs.Common.{ap}
use Rattle.import_report.specs.Due.{due_folders}
use Rattle.import_report.proofs.Steps.{asked_next, asked_folders}
use Rattle.import_report.proofs.visit.ask.Goals as goal

pub returns-clause-goes : goal.returns-clause-goes
returns-clause-goes g c =
    asked_next (g.T.Tree.files c.args.tree.now) c.args.path.now c.args.source.now c.in_ok-file.file c.in_ok-questions.questions c.args.pile.now c.push.new.self
    c.in_ok-questions.ensures.asked c.in_ok-file.ensures c.in_ok-push.ensures.ok

pub returns-clause-folders : goal.returns-clause-folders
returns-clause-folders g c = λ f. asked_folders f c.in_ok-file.file c.in_ok-questions.questions 0 c.args.pile.now c.push.new.self c.in_ok-push.ensures.ok

pub returns-in_err-push-clause-folders : goal.returns-in_err-push-clause-folders
returns-in_err-push-clause-folders g c = λ f. ap (due_folders f) c.in_err-push.ensures.err
