use Rattle.std.proofs.Common.{refl, sym}
use Rattle.program_run.specs.Sinks.{at, moment}
use Rattle.program_rounds.proofs.Answering.{ends_unopened, later_since}
use Rattle.program_rounds.proofs.answer.run_list.Goals as goal

pub returns-in-Ok-clause-answers : goal.returns-in-Ok-clause-answers
returns-in-Ok-clause-answers g c = λ words file first is names has since.
    let opened = c.open_rounds.ensures in
    c.play.ensures.answers words file first is names has (later_since since opened.files_stay c.in-Ok.ensures.faults_stay opened.lists_stay refl refl)

pub returns-in-Err-clause-answers : goal.returns-in-Err-clause-answers
returns-in-Err-clause-answers g c = λ words file first is names has since.
    ends_unopened g.S.Scripts.means words first (moment g.T.Tree g.K.Sink g.K.Sink c.args.tree.now c.args.out.now c.args.err.now)
    (moment g.T.Tree g.K.Sink g.K.Sink c.open_rounds.new.tree c.args.out.now c.tell_why.new.err) c.tell_why.result c.args.run file c.args.rounds.now c.in-Err.why since
    (record { run_is = is; file_is = names; plan = c.tell_why.ensures.plan }) c.tell_why.ensures.history has c.in-Err.ensures.err (c.tell_why.ensures.leaves first _ since.out (sym since.err) refl)
    c.open_rounds.ensures.faults_grow c.open_rounds.ensures.lists_stay
