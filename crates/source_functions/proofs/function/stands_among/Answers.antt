use Rattle.std.proofs.Common.{◌≡◌, ◌∙◌, sym}
use Rattle.source_functions.proofs.Locals.{found_among, none_so_far}
use Rattle.source_functions.proofs.function.stands_among.Goals as goal

pub returns-then-eq : goal.returns-then-eq
returns-then-eq c =
    sym (found_among c.args.names.now c.loop-other.other-index c.other-item.result c.args.name.now c.loop-other-test.true c.other-item.is c.loop-other.invariant (sym c.eq.ensures ∙ c.if-eq.true))

pub loop-other-preserved : goal.loop-other-preserved
loop-other-preserved c = none_so_far c.args.names.now c.loop-other.other-index c.other-item.result c.args.name.now c.loop-other-test.true c.other-item.is c.loop-other.invariant (sym c.eq.ensures ∙ c.if-eq.false)
