use Rattle.std.proofs.Common.{sym, ap}
use Rattle.meaning_script.specs.Calls.{str_call}
use Rattle.step_calls.proofs.Alone.{only_is}
use Rattle.step_calls.proofs.Lifts.{lifted}
use Rattle.step_calls.proofs.natives.call_str.Goals as goal

pub returns-in-Some : goal.returns-in-Some
returns-in-Some c = lifted _ _ _ _ c.str_value.result (ap str_call (sym (only_is c.args.values c.in-Some.value c.in-Some.ensures))) c.str_value.ensures
