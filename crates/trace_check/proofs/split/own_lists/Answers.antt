use Rattle.std.proofs.Common.{arith, rules}
use Rattle.trace_check.proofs.Splitting.{split_none, split_more, split_all}
use Rattle.trace_check.proofs.split.own_lists.Goals as goal

pub loop-t-init : goal.loop-t-init
loop-t-init c = split_none c.new-lists.result.items c.into_vec-rest.result.items c.args.entries (search rules) c.into_vec-rest.ensures

pub loop-t-preserved : goal.loop-t-preserved
loop-t-preserved c =
    split_more c.loop-t.lists.items c.push.new.self.items c.loop-t.t c.loop-t.rest.items _ c.args.entries _ c.loop-t.invariant c.in_ok-push.ensures.items c.in_ok-own.ensures.own c.in_ok-own.ensures.others

pub returns : goal.returns
returns c = split_all c.loop-t.lists.items c.loop-t.t c.args.threads c.loop-t.rest.items c.args.entries (omega (arith, c.loop-t-test.false, c.loop-t.auto.t-end)) c.loop-t.invariant
