use Rattle.std.proofs.Common.{subst, sym}
use Rattle.meaning_runs.specs.Runs.{Run}
use Rattle.step_calls.specs.Sources.{sources}
use Rattle.py_frames.specs.Does.{rest}
use Rattle.py_frames.specs.declared.work.Frame.{Frame}
use Rattle.drive_account.specs.At.{At}
use Rattle.drive_straight.specs.Remains.{goes_on, remains}
use Rattle.py_run.proofs.InPlace.{led_behind}
use Rattle.py_run.proofs.working.leave.Goals as goal
use Rattle.py_run.proofs.working.leave.Goals.{in-Back, in-Imported, in_default+in_ok-want-in_default}

pub returns-clause-moves : goal.returns-clause-moves
returns-clause-moves c =
    let old = c.args.execution.now in
    led_behind old c.match-frame.execution c.lead.new.execution (goes_on c.args.frame c.args.flow) (λ here. remains here c.match-frame.want) c.lead.result
    (elim c.match-frame.branch [
      | in-Back w ↦ λ files whole fuel mine a.
          rw (w.execution-is, w.want-is) (subst (λ (run : Run). At files whole fuel mine old.budget run) (sym (w.come_back-want.ensures.does sources (rest sources old.work))) (subst (λ (f : Frame). At files whole fuel mine old.budget (goes_on f c.args.flow old)) w.in-Back.is a))
      | in-Imported w ↦ λ files whole fuel mine a.
          rw (w.execution-is, w.want-is) (subst (λ (run : Run). At files whole fuel mine old.budget run) (sym (w.go_on_imported-want.ensures.does sources (rest sources old.work))) (subst (λ (f : Frame). At files whole fuel mine old.budget (goes_on f c.args.flow old)) w.in-Imported.is a))
      | in_default+in_ok-want-in_default w ↦ λ files whole fuel mine a.
          rw (w.execution-is, w.want-is) (subst (λ (run : Run). At files whole fuel mine old.budget run) (sym (w.in_ok-want-in_default.ensures.does (rest sources old.work))) a)
    ]) c.lead.ensures.moves
