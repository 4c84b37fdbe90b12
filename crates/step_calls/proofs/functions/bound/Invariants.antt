use Rattle.std.proofs.Common.{◌≡◌, List, ◌++◌}
use Rattle.py_value.specs.declared.value.Value.{Value}
use Rattle.meaning_script.specs.Meaning.{bound}
use Rattle.step_calls.proofs.functions.bound.Given as goal

abbrev pub invariant-loop-value : goal.invariant-loop-value
invariant-loop-value l = (more : List Value) → bound l.fn.names (l.yielded ++ more) l.fn.locals ≡ bound l.rest more l.locals
