use Rattle.std.proofs.Common.{◌≡◌, length}
use Rattle.py_frames.specs.Unwind.{unwound}
use Rattle.py_frames.proofs.stack.Work.unwind.Given as goal

abbrev pub invariant-loop-frame : goal.invariant-loop-frame
invariant-loop-frame l = unwound l.fn.leave l.self ≡ unwound l.fn.leave l.fn.self

abbrev pub decreases-loop-frame : goal.decreases-loop-frame
decreases-loop-frame l = length l.self
