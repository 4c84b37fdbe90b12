use Rattle.std.proofs.Common.{true}
use Rattle.program_run.specs.Sinks.{at}
use Rattle.program_run.proofs.Leaving.{gets_back}
use Rattle.program_commands.proofs.trace_convert.say_trace.Goals as goal

pub returns-clause-gets : goal.returns-clause-gets
returns-clause-gets g c =
    gets_back (at g.K.Sink c.args.sink.now) _ _ true c.args.entries.now _ _ c.close.result c.open-out.ensures.trace c.open-out.ensures.gets c.put_all.ensures
    c.close.ensures.written c.close.ensures.faults c.close.ensures.flow
