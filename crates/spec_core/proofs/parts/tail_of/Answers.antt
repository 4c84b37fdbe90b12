use Rattle.std.proofs.Common.{sym}
use Rattle.spec_core.proofs.Dots.{tail-cut, tail-none}
use Rattle.spec_core.proofs.parts.tail_of.Goals as goal

pub returns-in-Some : goal.returns-in-Some
returns-in-Some c = sym (tail-cut c.args.name.now c.in-Some.field-0-0.now c.in-Some.tail.now c.in-Some.ensures.value.0 c.in-Some.ensures.value.1)

pub returns-in-None : goal.returns-in-None
returns-in-None c = sym (tail-none c.args.name.now c.in-None.ensures.value)
