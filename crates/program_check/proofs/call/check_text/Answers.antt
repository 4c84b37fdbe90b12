use Rattle.std.proofs.Common.{refl, rules}
use Rattle.tree_files.specs.Count.{Rose}
use Rattle.program_run.specs.Sinks.{Moment, at, moment}
use Rattle.program_check.specs.Checking.{ChecksText}
use Rattle.program_check.proofs.call.check_text.Goals as goal

pub returns-in-Ok-clause-answers : goal.returns-in-Ok-clause-answers
returns-in-Ok-clause-answers g c =
    let old : Moment = moment g.T.Tree g.O.Sink g.K.Sink c.args.tree.now c.args.out.now c.args.err.now in
    let new : Moment = moment g.T.Tree g.O.Sink g.K.Sink c.judge-judged.new.tree c.say.new.out c.args.err.now in
    ChecksText.judged c.args.it.now.rounds c.args.it.now.texts c.in-Ok.said.entries c.in-Ok.said.verdict c.requires.opened c.in-Ok.ensures.judges (c.say.ensures.says old new refl refl refl)

pub returns-in-Err-Failed-clause-answers : goal.returns-in-Err-Failed-clause-answers
returns-in-Err-Failed-clause-answers g c =
    let old : Moment = moment g.T.Tree g.O.Sink g.K.Sink c.args.tree.now c.args.out.now c.args.err.now in
    let new : Moment = moment g.T.Tree g.O.Sink g.K.Sink c.judge-judged.new.tree c.args.out.now c.unopened.new.err in
    let rose : Rose (g.T.Tree.faults c.args.tree.now) (g.T.Tree.faults c.judge-judged.new.tree) = search rules in
    ChecksText.unread rose (c.unopened.ensures.tells old new refl refl refl)

pub returns-in-Err-NoMemory-clause-answers : goal.returns-in-Err-NoMemory-clause-answers
returns-in-Err-NoMemory-clause-answers g c =
    let old : Moment = moment g.T.Tree g.O.Sink g.K.Sink c.args.tree.now c.args.out.now c.args.err.now in
    let new : Moment = moment g.T.Tree g.O.Sink g.K.Sink c.judge-judged.new.tree c.args.out.now c.unopened-in-Err-NoMemory.new.err in
    ChecksText.short (c.unopened-in-Err-NoMemory.ensures.tells old new refl refl refl)
