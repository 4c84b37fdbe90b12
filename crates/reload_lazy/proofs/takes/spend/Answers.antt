use Rattle.std.proofs.Common.{◌∙◌, sym}
use Rattle.reload_lazy.specs.Reload.{meant}
use Rattle.reload_lazy.specs.Reloading.{called}
use Rattle.reload_lazy.proofs.Turns.{retakes_more}
use Rattle.reload_lazy.proofs.takes.spend.Goals as goal

pub returns : goal.returns
returns c =
    let p = c.args.p.now in
    record { goes = record { goes = λ inside s k. (rw c.requires.event at (c.wait_for.ensures.goes.goes inside s k)) ∙ sym (retakes_more inside p.turns (called p c.args.name) c.args.epoch (meant c.args.finding) s k c.requires.turns) } }
