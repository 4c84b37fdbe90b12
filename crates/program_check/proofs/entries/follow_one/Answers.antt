use Rattle.std.proofs.Common.{◌≡◌, ◌∙◌, arith}
use Rattle.tree_overlay.specs.Told.{edited_told}
use Rattle.program_check.proofs.Following.{if_told}
use Rattle.program_check.proofs.entries.follow_one.Goals as goal

pub returns-clause-answers : goal.returns-clause-answers
returns-clause-answers g c =
    if_told (edited_told c.args.edits.now (g.T.Tree.files c.args.tree.now)) _ (λ files told.
    c.follow-answer.ensures.answers files (c.in_ok-fork.ensures.files ∙ told))

pub returns-clause-failed : goal.returns-clause-failed
returns-clause-failed g c = λ failed.
    let none = c.in_ok-fork.ensures.faults in
    let rose = c.follow-answer.ensures.failed failed in
    let stays = c.edited_fork.ensures.faults_stay in
    let takes = c.absorb_fork.ensures.faults in
    omega (arith, none, rose, stays, takes)
