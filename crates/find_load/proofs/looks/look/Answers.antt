use Rattle.std.proofs.Common.{◌∙◌, sym}
use Rattle.find_load.specs.UnderWay.{within}
use Rattle.find_load.proofs.Turns.{asks_more}
use Rattle.find_load.proofs.looks.look.Goals as goal

pub returns : goal.returns
returns c =
    let p = c.args.p.now in
    record { goes = record { goes = λ inside s k. (rw c.in_ok-copy.ensures at (c.wait_for.ensures.goes.goes inside s k)) ∙ sym (asks_more (within p inside) p.turns c.args.is_parent p.name s k c.requires) } }
