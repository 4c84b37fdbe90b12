use Rattle.std.proofs.Common.{◌∙◌, ℕ, ap}
use Rattle.program_run.specs.Statuses.{sink_fault}
use Rattle.program_run.specs.Sinks.{at, status_by}
use Rattle.program_run.proofs.Finishing.{said_of}
use Rattle.program_run.proofs.finish.finish_run.Goals as goal

pub returns-clause-leaves : goal.returns-clause-leaves
returns-clause-leaves g c =
    let is = c.status_by.ensures ∙ ap (λ (n : ℕ). status_by n sink_fault c.args.out c.say_line-said.result) c.worst_of.ensures in
    said_of (λ l. l.items) c.args.scripts.now c.args.results.now c.lines_of-lines.result (at g.K.Sink c.args.err.now) (at g.K.Sink c.say_line-said.new.sink) c.args.out c.say_line-said.result
    c.status_by.result is c.lines_of-lines.ensures.whole c.say_line-said.ensures.short
    c.requires c.lines_of-lines.ensures.lines c.say_line-said.ensures.gets
