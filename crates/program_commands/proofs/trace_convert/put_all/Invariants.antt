use Rattle.std.proofs.Common.{take}
use Rattle.machine_desk.specs.Outgo.{Kept}
use Rattle.program_commands.proofs.trace_convert.put_all.Given as goal

abbrev pub invariant-loop-entry : goal.invariant-loop-entry
invariant-loop-entry g l = Kept g.O.Outlet.piece (g.O.Outlet.out l.fn.out) (g.O.Outlet.out l.out) (take l.entry-index l.entries)
