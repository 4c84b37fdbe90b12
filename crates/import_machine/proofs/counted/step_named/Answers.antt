use Rattle.import_machine.proofs.Settling.{counted_after, counted_undone}
use Rattle.import_machine.proofs.counted.step_named.Goals as goal

pub returns-in-Ok-step-clause-counted : goal.returns-in-Ok-step-clause-counted
returns-in-Ok-step-clause-counted c =
    counted_after c.args.state.now c.requires.sound c.args.counts.now c.requires.counted c.args.thread c.args.event c.requires.allowed c.args.begun.now c.args.ended.now c.requires.begun c.requires.ended
    c.raise_at.new.counts c.settle.new.counts c.step.new.machine c.in-Ok-step.reply c.in-Ok.ensures.ok c.in-Ok-step.ensures.ok c.in-Ok-step.ensures.reply c.settle.ensures

pub returns-in-Err-step-clause-counted : goal.returns-in-Err-step-clause-counted
returns-in-Err-step-clause-counted c =
    counted_undone c.args.state.now c.requires.sound c.args.counts.now c.requires.counted c.args.begun.now c.raise_at.new.counts c.lower_at.new.counts c.step.new.machine
    c.in-Ok.ensures.ok c.in-Err-step.ensures.err c.lower_at.ensures
