use Rattle.std.proofs.Common.{refl}
use Rattle.program_run.specs.Sinks.{Moment, at, moment}
use Rattle.program_check.specs.Checking.{Checks}
use Rattle.program_check.proofs.Saying.{no_trace, text_since}
use Rattle.program_check.proofs.call.check.Goals as goal

pub returns-in-Ok-clause-answers : goal.returns-in-Ok-clause-answers
returns-in-Ok-clause-answers g c =
    let first : Moment = moment g.T.Tree g.O.Sink g.K.Sink c.args.tree.now c.args.out.now c.args.err.now in
    let old : Moment = moment g.T.Tree g.O.Sink g.K.Sink c.open_trace.new.tree c.args.out.now c.args.err.now in
    let new : Moment = moment g.T.Tree g.O.Sink g.K.Sink c.check_opened.new.tree c.check_opened.new.out c.check_opened.new.err in
    let opened = c.open_trace.ensures in
    let means = g.F.Followed.means in
    let run = c.args.run in
    let status = c.check_opened.result.status in
    Checks.opened c.in-Ok.bytes c.in-Ok.ensures.ok
    (text_since first old new (record { files = opened.files_stay; faults = opened.faults_grow; out = refl; err = refl }) means c.in-Ok.bytes run status
    c.check_opened.ensures.answers)

pub returns-in-Err-clause-answers : goal.returns-in-Err-clause-answers
returns-in-Err-clause-answers g c =
    let old : Moment = moment g.T.Tree g.O.Sink g.K.Sink c.args.tree.now c.args.out.now c.args.err.now in
    let new : Moment = moment g.T.Tree g.O.Sink g.K.Sink c.open_trace.new.tree c.args.out.now c.unopened.new.err in
    no_trace g.F.Followed.means c.args.trace_file c.args.run old new c.unopened.result.status c.in-Err.why c.in-Err.ensures.err (c.unopened.ensures.tells old new refl refl refl)
