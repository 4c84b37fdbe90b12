use Rattle.std.proofs.Common.{Option, refl, sym, subst}
use Rattle.tree_files.specs.Files.{Files}
use Rattle.program_run.specs.Sinks.{Moment, at, moment}
use Rattle.program_check.specs.Opened.{Opens}
use Rattle.program_check.proofs.Saying.{no_script, text_since}
use Rattle.program_check.proofs.call.check_opened.Goals as goal

pub check_text-requires-clause-opened : goal.check_text-requires-clause-opened
check_text-requires-clause-opened g c κs within = subst (λ (f : Option Files). Opens f c.args.run c.in-Ok.it.rounds c.in-Ok.it.texts) (sym c.open_scripts.ensures.files_stay) c.in-Ok.ensures.ok

pub returns-in-Ok-clause-answers : goal.returns-in-Ok-clause-answers
returns-in-Ok-clause-answers g c =
    let first : Moment = moment g.T.Tree g.O.Sink g.K.Sink c.args.tree.now c.args.out.now c.args.err.now in
    let old : Moment = moment g.T.Tree g.O.Sink g.K.Sink c.open_scripts.new.tree c.args.out.now c.args.err.now in
    let new : Moment = moment g.T.Tree g.O.Sink g.K.Sink c.check_text.new.tree c.check_text.new.out c.check_text.new.err in
    let opened = c.open_scripts.ensures in
    text_since first old new (record { files = opened.files_stay; faults = opened.faults_grow; out = refl; err = refl }) g.F.Followed.means c.args.bytes c.args.run c.check_text.result.status c.check_text.ensures.answers

pub returns-in-Err-clause-answers : goal.returns-in-Err-clause-answers
returns-in-Err-clause-answers g c =
    let old : Moment = moment g.T.Tree g.O.Sink g.K.Sink c.args.tree.now c.args.out.now c.args.err.now in
    let new : Moment = moment g.T.Tree g.O.Sink g.K.Sink c.open_scripts.new.tree c.args.out.now c.unopened.new.err in
    no_script g.F.Followed.means c.args.bytes c.args.run old new c.unopened.result.status c.in-Err.why c.in-Err.ensures.err (c.unopened.ensures.tells old new refl refl refl)
