use Rattle.py_run.proofs.Framing.{comes_left, comes_went}
use Rattle.py_run.proofs.steps.next_frame.Goals as goal

pub returns-in-Left : goal.returns-in-Left
returns-in-Left c = comes_left c.unwind.result c.args.work.now c.unwind.new.self c.args.flow.now c.in-Left.leave c.in-Left.is c.unwind.ensures

pub returns-in-Went : goal.returns-in-Went
returns-in-Went c = comes_went c.pop.result c.args.work.now c.pop.new.self c.args.flow.now _ c.in-Went.is c.pop.ensures
