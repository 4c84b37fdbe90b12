use Rattle.std.proofs.Common.{sym, arith}
use Rattle.step_calls.proofs.Depth.{asks}
use Rattle.step_calls.proofs.functions.call_function.Goals as goal

pub returns-in-None : goal.returns-in-None
returns-in-None c =
    record { does = λ w next. asks w c.args.thread.now.left c.args.load c.args.index c.args.arguments c.args.thread.now.state next (omega (arith, c.if-thread-eq0.false)) (sym c.in-None.ensures) }
