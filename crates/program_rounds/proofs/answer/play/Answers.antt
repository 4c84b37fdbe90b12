use Rattle.program_run.specs.Sinks.{at, moment}
use Rattle.program_rounds.proofs.Answering.{many_texts, played_by}
use Rattle.program_rounds.proofs.answer.play.Goals as goal

pub run_rounds-ran-requires-clause-texts : goal.run_rounds-ran-requires-clause-texts
run_rounds-ran-requires-clause-texts g c = λ κs lives.
    many_texts (g.T.Tree.files c.args.tree.now) c.args.rounds.now c.args.texts c.requires.texts

pub returns-clause-answers : goal.returns-clause-answers
returns-clause-answers g c = λ words file first is names has since.
    let ran = c.run_rounds-ran in
    played_by g.S.Scripts.means words first (moment g.T.Tree g.K.Sink g.K.Sink c.args.tree.now c.args.out.now c.args.err.now)
    (moment g.T.Tree g.K.Sink g.K.Sink ran.new.tree ran.new.out ran.new.err) c.args.run file c.args.rounds.now c.args.texts since
    ran.result c.with_plan.result c.with_plan.ensures is names has c.requires.texts ran.ensures.run
