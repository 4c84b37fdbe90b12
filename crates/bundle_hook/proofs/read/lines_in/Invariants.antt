use Rattle.std.proofs.Common.{◌≡◌, ◌-◌, []}
use Rattle.bundle_hook.specs.Reading.{lines_in}
use Rattle.bundle_hook.proofs.read.lines_in.Given as goal

abbrev pub invariant-loop-i : goal.invariant-loop-i
invariant-loop-i l = lines_in l.most [] l.fn.text ≡ lines_in (l.most - l.i) l.done l.rest
