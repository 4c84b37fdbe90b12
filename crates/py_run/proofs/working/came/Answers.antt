use Rattle.std.proofs.Common.{◌≡◌, List, [], ap, rules}
use Rattle.meaning_state.specs.declared.flow.Flow.TheVariants.{Went}
use Rattle.step_calls.specs.Sources.{sources}
use Rattle.py_frames.specs.Does.{rest}
use Rattle.py_frames.specs.declared.want.Want.TheVariants as want
use Rattle.py_frames.specs.declared.work.Frame.{Frame}
use Rattle.py_frames.specs.declared.work.Frame.TheVariants as frame
use Rattle.drive_straight.specs.Remains.{due, goes_on}
use Rattle.drive_straight.specs.declared.execution.Execution.{Execution}
use Rattle.drive_straight.specs.declared.next.Next.TheVariants as nexts
use Rattle.py_run.proofs.InPlace.{came_to, led_behind, led_wanted, over_here}
use Rattle.py_run.proofs.Leading.{comes_on}
use Rattle.py_run.proofs.working.came.Goals as goal

pub returns-in-None-clause-moves : goal.returns-in-None-clause-moves
returns-in-None-clause-moves c =
    let old = c.args.execution.now in
    let over : Execution = record { budget = old.budget; held = old.held; thread = old.thread; work = c.pop.new.self } in
    let none : (old.work ≡ []) × (c.pop.new.self ≡ []) = search rules in
    led_wanted old over (due (nexts.Went c.args.value)) (want.Go (Went c.args.value)) c.wanted.result
    (over_here old (Went c.args.value) c.pop.new.self (λ d s. ap (λ (fs : List Frame). rest sources fs d (Went c.args.value) s) none.0) none.1) c.wanted.ensures

pub returns-in-Some-Sized-clause-moves : goal.returns-in-Some-Sized-clause-moves
returns-in-Some-Sized-clause-moves c =
    let old = c.args.execution.now in
    let mid : Execution = record { budget = old.budget; held = old.held; thread = old.thread; work = c.pop.new.self } in
    let at : Frame = frame.Sized in
    led_behind old mid c.resume_sized.new.execution (due (nexts.Went c.args.value)) (goes_on at (Went c.args.value)) c.resume_sized.result
    (comes_on old (Went c.args.value) at c.pop.new.self (came_to old c.args.value at c.pop.new.self (search rules))) c.resume_sized.ensures.moves

pub returns-in-Some-Block-clause-moves : goal.returns-in-Some-Block-clause-moves
returns-in-Some-Block-clause-moves c =
    let old = c.args.execution.now in
    let mid : Execution = record { budget = old.budget; held = old.held; thread = old.thread; work = c.pop.new.self } in
    let at : Frame = frame.Block c.in-Some-Block.stmts c.in-Some-Block.at in
    led_behind old mid c.resume_block.new.execution (due (nexts.Went c.args.value)) (goes_on at (Went c.args.value)) c.resume_block.result
    (comes_on old (Went c.args.value) at c.pop.new.self (came_to old c.args.value at c.pop.new.self (search rules))) c.resume_block.ensures.moves

pub returns-in-Some-Loop-clause-moves : goal.returns-in-Some-Loop-clause-moves
returns-in-Some-Loop-clause-moves c =
    let old = c.args.execution.now in
    let mid : Execution = record { budget = old.budget; held = old.held; thread = old.thread; work = c.pop.new.self } in
    let at : Frame = frame.Loop c.in-Some-Loop.test c.in-Some-Loop.body c.in-Some-Loop.turns in
    led_behind old mid c.resume_loop.new.execution (due (nexts.Went c.args.value)) (goes_on at (Went c.args.value)) c.resume_loop.result
    (comes_on old (Went c.args.value) at c.pop.new.self (came_to old c.args.value at c.pop.new.self (search rules))) c.resume_loop.ensures.moves

pub returns-in-Some-Operands-clause-moves : goal.returns-in-Some-Operands-clause-moves
returns-in-Some-Operands-clause-moves c =
    let old = c.args.execution.now in
    let mid : Execution = record { budget = old.budget; held = old.held; thread = old.thread; work = c.pop.new.self } in
    let at : Frame = frame.Operands c.in-Some-Operands.form c.in-Some-Operands.done in
    led_behind old mid c.resume_operand.new.execution (due (nexts.Went c.args.value)) (goes_on at (Went c.args.value)) c.resume_operand.result
    (comes_on old (Went c.args.value) at c.pop.new.self (came_to old c.args.value at c.pop.new.self (search rules))) c.resume_operand.ensures.moves

pub returns-in-Some-Decide-clause-moves : goal.returns-in-Some-Decide-clause-moves
returns-in-Some-Decide-clause-moves c =
    let old = c.args.execution.now in
    let mid : Execution = record { budget = old.budget; held = old.held; thread = old.thread; work = c.pop.new.self } in
    let at : Frame = frame.Decide c.in-Some-Decide.test c.in-Some-Decide.body c.in-Some-Decide.turns in
    led_behind old mid c.decide.new.execution (due (nexts.Went c.args.value)) (goes_on at (Went c.args.value)) c.decide.result
    (comes_on old (Went c.args.value) at c.pop.new.self (came_to old c.args.value at c.pop.new.self (search rules))) c.decide.ensures.moves

pub returns-in-Some-Store-clause-moves : goal.returns-in-Some-Store-clause-moves
returns-in-Some-Store-clause-moves c =
    let old = c.args.execution.now in
    let at : Frame = frame.Store c.in-Some-Store.name in
    comes_on old (Went c.args.value) at c.pop.new.self (came_to old c.args.value at c.pop.new.self (search rules))

pub returns-in-Some-clause-moves : goal.returns-in-Some-clause-moves
returns-in-Some-clause-moves c =
    let old = c.args.execution.now in
    let mid : Execution = record { budget = old.budget; held = old.held; thread = old.thread; work = c.pop.new.self } in
    led_behind old mid c.leave.new.execution (due (nexts.Went c.args.value)) (goes_on c.in-Some.frame (Went c.args.value)) c.leave.result
    (comes_on old (Went c.args.value) c.in-Some.frame c.pop.new.self (came_to old c.args.value c.in-Some.frame c.pop.new.self (search rules))) c.leave.ensures.moves
