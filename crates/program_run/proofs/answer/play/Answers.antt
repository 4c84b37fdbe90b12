use Rattle.program_run.specs.Sinks.{at, moment}
use Rattle.program_run.proofs.Answering.{played_by}
use Rattle.program_run.proofs.answer.play.Goals as goal

pub returns-clause-answers : goal.returns-clause-answers
returns-clause-answers g c = λ words first is since.
    played_by g.S.Scripts.means words first (moment g.T.Tree g.K.Sink g.K.Sink c.args.tree.now c.args.out.now c.args.err.now)
    (moment g.T.Tree g.K.Sink g.K.Sink c.run_scripts-ran.new.tree c.run_scripts-ran.new.out c.run_scripts-ran.new.err) c.args.run c.args.texts since is c.requires.texts
    c.run_scripts-ran.result c.with_plan.result c.with_plan.ensures c.run_scripts-ran.ensures.run
