use Rattle.std.proofs.Common.{refl, arith}
use Rattle.program_run.specs.Answers.{Answers}
use Rattle.program_run.proofs.Answering.{short_by, refused_by, unread_by}
use Rattle.program_run.proofs.answer.run_plan.Goals as goal

pub returns-in-Ok-clause-answers : goal.returns-in-Ok-clause-answers
returns-in-Ok-clause-answers g c = λ words is.
    let opened = c.open_all.ensures in
    c.play.ensures.answers words _ is (record { files = opened.files_stay; faults = c.in-Ok.ensures.faults_stay; lists = opened.lists_stay; out = refl; err = refl })

pub returns-in-Err-Refused-clause-answers : goal.returns-in-Err-Refused-clause-answers
returns-in-Err-Refused-clause-answers g c = λ words is.
    let tree = g.T.Tree.files c.args.tree.now in
    let scripts = c.args.run.scripts in
    let refused = refused_by tree c.as_slice.result.now scripts _ _ c.in-Err-Refused.field-0 c.as_slice.ensures c.in-Err-Refused.ensures.err c.in-Err-Refused.line c.in-Err-Refused.field-0-is in
    Answers.unopened c.args.run c.in-Err-Refused.line.items is c.tell.ensures.plan c.tell.ensures.history refused (c.tell.ensures.leaves c.in-Err-Refused.line.items _ _ refl refl refl refl)

pub returns-in-Err-Unread-clause-answers : goal.returns-in-Err-Unread-clause-answers
returns-in-Err-Unread-clause-answers g c = λ words is.
    let tree = g.T.Tree.files c.args.tree.now in
    let unread = unread_by tree c.as_slice.result.now c.args.run.scripts _ _ c.in-Err-Unread.field-0 c.as_slice.ensures c.in-Err-Unread.ensures.err c.in-Err-Unread.field-0-is in
    Answers.unread c.args.run is c.unread.ensures.plan c.unread.ensures.history unread (c.unread.ensures.leaves _ _ refl refl refl)

pub returns-in-Err-NoMemory-clause-answers : goal.returns-in-Err-NoMemory-clause-answers
returns-in-Err-NoMemory-clause-answers g c = λ words is.
    let opened = c.open_all.ensures in
    let lists = opened.lists_stay in
    short_by _ words _ _ c.without_run.result c.args.run is c.without_run.ensures (record { faults = opened.faults_grow; lists = omega (arith, lists); out = refl; err = refl })
