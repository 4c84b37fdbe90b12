use Rattle.reload_lazy.proofs.finds.seek.Goals as goal

pub returns : goal.returns
returns c = record { goes = record { goes = λ inside s k. rw c.requires at (c.wait_for.ensures.goes.goes inside s k) } }
