use Rattle.std.proofs.Common.{[], rules}
use Rattle.std.proofs.lemmas.Iterator.Adapters.{YieldsList-from_vec}
use Rattle.std.proofs.lemmas.Iterator.Consumers.{YieldsList-end}
use Rattle.step_calls.proofs.Bound.{all_bound}
use Rattle.step_calls.proofs.functions.bound.Goals as goal

pub returns : goal.returns
returns c =
    let given = YieldsList-from_vec c.args.values (search rules) (search rules) in
    let all = YieldsList-end given c.loop-value.yielded c.loop-value.value-iterator c.loop-value.yielded_by c.next.result c.next.new.self c.in-None.is c.next.ensures.steps in
    all_bound c.args.names.now c.loop-value.rest.now c.loop-value.yielded c.args.values c.args.locals c.loop-value.locals all.0 (c.loop-value.invariant [])
