use Rattle.std.proofs.Common.{◌∙◌, sym, ap}
use Rattle.std.specs.Option.{option_copied}
use Rattle.import_report.specs.Due.{due_folders}
use Rattle.import_report.proofs.Steps.{on_question, no_question, asked_folders}
use Rattle.import_report.proofs.visit.take_question.Goals as goal

pub returns-in_default-clause-goes : goal.returns-in_default-clause-goes
returns-in_default-clause-goes g c =
    no_question (g.T.Tree.files c.args.tree.now) c.args.on.now c.args.asked.file c.args.asked.questions c.args.asked.at c.args.pile.now (sym c.get.ensures.value ∙ ap option_copied c.in_default.is)

pub returns-clause-goes : goal.returns-clause-goes
returns-clause-goes g c =
    on_question (g.T.Tree.files c.args.tree.now) c.args.on.now c.args.asked.file c.args.asked.questions c.args.asked.at c.in-Some.question.now c.in_ok-line.line c.args.pile.now c.push.new.self
    (sym c.get.ensures.value ∙ ap option_copied c.in-Some.is) c.in_ok-line.ensures.line c.in_ok-push.ensures.ok

pub returns-clause-folders : goal.returns-clause-folders
returns-clause-folders g c = λ f. asked_folders f c.args.asked.file c.args.asked.questions _ c.args.pile.now c.push.new.self c.in_ok-push.ensures.ok

pub returns-in_err-push-clause-folders : goal.returns-in_err-push-clause-folders
returns-in_err-push-clause-folders g c = λ f. ap (due_folders f) c.in_err-push.ensures.err
