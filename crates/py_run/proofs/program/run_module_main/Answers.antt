use Rattle.std.proofs.Common.{List, ℕ, IfOk, OnErr, ap, subst}
use Rattle.machine_desk.proofs.Keeping.{continues_refl}
use Rattle.meaning_runs.specs.Follows.{Follows}
use Rattle.meaning_runs.specs.Lists.{ends_in}
use Rattle.drive_account.specs.Ending.{IsMeant, Broken, outcome}
use Rattle.run_module.specs.Programs.{meaning_of_name}
use Rattle.step_calls.specs.Sources.{sources}
use Rattle.module_safety.proofs.Programs.{module_safe}
use Rattle.drive_account.proofs.Meant.{broken_first}
use Rattle.py_run.proofs.program.run_module_main.Goals as goal

pub returns-in-Err-clause-continues : goal.returns-in-Err-clause-continues
returns-in-Err-clause-continues g c = continues_refl _

pub returns-in-Err-clause-goes_on : goal.returns-in-Err-clause-goes_on
returns-in-Err-clause-goes_on g c = ap ends_in c.requires.first

pub returns-in-Err-clause-part : goal.returns-in-Err-clause-part
returns-in-Err-clause-part g c = broken_first _ _ c.requires.first

pub run_thread-requires-clause-safe : goal.run_thread-requires-clause-safe
run_thread-requires-clause-safe g c = module_safe sources c.args.script c.in-Ok.copy

pub returns-clause-meant : goal.returns-clause-meant
returns-clause-meant g c =
    let mine = (g.D.Desk.sight c.run_thread.new.desk).mine in
    subst (λ (it : List ℕ). IfOk c.run_thread.result (λ ending. IsMeant (g.T.Tree.files c.args.tree.now) c.args.script (meaning_of_name sources c.args.script it) c.args.fuel mine (outcome ending))) c.in-Ok.ensures
    c.run_thread.ensures.meant

pub returns-clause-follows : goal.returns-clause-follows
returns-clause-follows g c = λ files e.
    let mine = (g.D.Desk.sight c.run_thread.new.desk).mine in
    subst (λ (it : List ℕ). IfOk c.run_thread.result (λ ending. Follows files c.args.script (meaning_of_name sources c.args.script it) c.args.fuel mine (outcome ending))) c.in-Ok.ensures
    (c.run_thread.ensures.follows files e)

pub returns-clause-part : goal.returns-clause-part
returns-clause-part g c =
    let mine = (g.D.Desk.sight c.run_thread.new.desk).mine in
    subst (λ (it : List ℕ). OnErr c.run_thread.result (Broken (g.T.Tree.files c.args.tree.now) c.args.script (meaning_of_name sources c.args.script it) c.args.fuel mine (g.T.Tree.faults c.args.tree.now) (g.T.Tree.faults c.run_thread.new.tree))) c.in-Ok.ensures
    c.run_thread.ensures.part
