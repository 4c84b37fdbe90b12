use Rattle.std.proofs.Common.{rules}
use Rattle.meaning_state.specs.declared.flow.Flow.TheVariants.{Went}
use Rattle.py_frames.specs.declared.work.Form.TheVariants.{Statement}
use Rattle.py_frames.specs.declared.work.Frame.{Frame}
use Rattle.py_frames.specs.declared.work.Frame.TheVariants as frame
use Rattle.drive_straight.specs.Remains.{gives, goes_on}
use Rattle.drive_straight.specs.declared.execution.Execution.{Execution}
use Rattle.drive_straight.proofs.Operands.{leads_behind, same_run, taken}
use Rattle.drive_straight.proofs.coming.give.Goals as goal

pub returns-in-Statement-clause-moves : goal.returns-in-Statement-clause-moves
returns-in-Statement-clause-moves c =
    let old = c.args.execution.now in
    let mid : Execution = record { budget = old.budget; held = old.held; thread = old.thread; work = c.pop.new.self } in
    let f : Frame = frame.Operands (Statement c.in-Statement.stmts c.in-Statement.at) c.in-Some-Operands.done in
    leads_behind old mid c.resume_statement.new.execution (gives c.args.value) (goes_on f (Went c.args.value)) c.resume_statement.result
    (same_run old.budget _ _ (taken old f c.pop.new.self c.args.value (search rules))) c.resume_statement.ensures.moves

pub returns-in-Some-Decide-clause-moves : goal.returns-in-Some-Decide-clause-moves
returns-in-Some-Decide-clause-moves c =
    let old = c.args.execution.now in
    let mid : Execution = record { budget = old.budget; held = old.held; thread = old.thread; work = c.pop.new.self } in
    let f : Frame = frame.Decide c.in-Some-Decide.test c.in-Some-Decide.body c.in-Some-Decide.turns in
    leads_behind old mid c.decide.new.execution (gives c.args.value) (goes_on f (Went c.args.value)) c.decide.result
    (same_run old.budget _ _ (taken old f c.pop.new.self c.args.value (search rules))) c.decide.ensures.moves

pub returns-in-Some-Test-clause-moves : goal.returns-in-Some-Test-clause-moves
returns-in-Some-Test-clause-moves c =
    let old = c.args.execution.now in
    let mid : Execution = record { budget = old.budget; held = old.held; thread = old.thread; work = c.pop.new.self } in
    let f : Frame = frame.Test c.in-Some-Test.branches c.in-Some-Test.at c.in-Some-Test.otherwise in
    leads_behind old mid c.pick.new.execution (gives c.args.value) (goes_on f (Went c.args.value)) c.pick.result
    (same_run old.budget _ _ (taken old f c.pop.new.self c.args.value (search rules))) c.pick.ensures.moves
