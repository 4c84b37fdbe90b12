use Rattle.std.proofs.Common.{◌≤◌, ◌+◌, ◌∙◌, refl, sym, ap, subst, ℕ, List, length, Option, arith}
use Rattle.tree_files.specs.Files.{Files}
use Rattle.import_report.specs.Reports.{report_lines, report_folders}
use Rattle.program_run.specs.Sinks.{Moment, at, moment}
use Rattle.program_run.specs.declared.report.Report.{Report}
use Rattle.program_commands.specs.Telling.{Tells}
use Rattle.program_commands.specs.Reporting.{Reports}
use Rattle.program_commands.proofs.report.report_imports.Goals as goal

pub returns-in-Ok-clause-answers : goal.returns-in-Ok-clause-answers
returns-in-Ok-clause-answers g c =
    let old : Moment = moment g.T.Tree g.O.Sink g.K.Sink c.args.tree.now c.args.out.now c.args.err.now in
    let new : Moment = moment g.T.Tree g.O.Sink g.K.Sink c.tell_report-told.new.tree c.tell_report-told.new.out c.end_report-status.new.err in
    subst (λ (n : ℕ). Reports c.args.dir c.args.path old new n) (sym (ap (λ (r : Report). r.status) c.without_run.ensures))
    (Reports.opened c.in-Ok.folder c.in-Ok.ensures.ok (record {
      told = c.tell_report-told.result;
      tells = subst (λ (o : Option Files). Tells o (λ f. report_lines f c.in-Ok.folder c.args.path) old.faults new.faults old.out new.out c.tell_report-told.result) c.open_folder.ensures.files_stay
          (subst (λ (n : ℕ). Tells (g.T.Tree.files c.open_folder.new.tree) (λ f. report_lines f c.in-Ok.folder c.args.path) n new.faults old.out new.out c.tell_report-told.result) c.in-Ok.ensures.faults_stay c.tell_report-told.ensures.tells);
      ends = c.end_report-status.ensures.ends;
      lists = λ f there. subst (λ (n : ℕ). g.T.Tree.lists c.tell_report-told.new.tree ≤ n + length (report_folders f c.in-Ok.folder)) c.open_folder.ensures.lists_stay (c.tell_report-told.ensures.lists f (c.open_folder.ensures.files_stay ∙ there));
    }))

pub returns-in-Err-clause-answers : goal.returns-in-Err-clause-answers
returns-in-Err-clause-answers g c =
    let old : Moment = moment g.T.Tree g.O.Sink g.K.Sink c.args.tree.now c.args.out.now c.args.err.now in
    let new : Moment = moment g.T.Tree g.O.Sink g.K.Sink c.open_folder.new.tree c.args.out.now c.unopened.new.err in
    c.unopened.ensures.answers c.args.dir c.args.path old new c.in-Err.ensures.err c.open_folder.ensures.lists_stay refl refl refl
