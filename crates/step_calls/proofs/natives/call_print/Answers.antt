use Rattle.std.proofs.Common.{sym}
use Rattle.step_calls.specs.Around.{prints_all}
use Rattle.step_calls.proofs.Lifts.{lifted}
use Rattle.step_calls.proofs.Listed.{all_unlisted}
use Rattle.step_calls.proofs.natives.call_print.Goals as goal

pub returns-in-None : goal.returns-in-None
returns-in-None c = lifted _ _ _ _ c.print_built.result (sym (all_unlisted c.args.values prints_all c.in-None.ensures)) c.print_built.ensures
