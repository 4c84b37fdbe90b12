use Rattle.std.proofs.Common.{◌≡◌, List, [], ap, rules}
use Rattle.machine_events.specs.declared.event.Pair.{Pair}
use Rattle.machine_events.specs.declared.event.Entry.{Entry}
use Rattle.machine_shown.specs.Own.{own}
use Rattle.trace_check.specs.Threads.{pairs_of}
use Rattle.trace_check.proofs.Splitting.{none_taken, one_taken, all_taken}
use Rattle.trace_check.proofs.split.split_own.Goals as goal

pub loop-entry-init : goal.loop-entry-init
loop-entry-init c =
    let none : c.new-others.result.items ≡ [] = search rules in
    record {
      mine = none_taken c.args.t _ c.args.entries.items c.reverse.new.self.items (ap (λ (l : List Pair). pairs_of l) c.new-pairs.ensures) c.reverse.ensures.items;
      others = λ u apart. none_taken u _ c.args.entries.items c.reverse.new.self.items (ap (λ (l : List Entry). own u l) none) c.reverse.ensures.items;
    }

pub loop-entry-preserved : goal.loop-entry-preserved
loop-entry-preserved c =
    let inv = c.loop-entry.invariant in
    record {
      mine = one_taken c.args.t _ _ c.in-Some.entry c.args.entries.items c.loop-entry.left.items c.pop.new.self.items c.give_back.new.entries.items c.in-Some.ensures.items c.give_back.ensures c.in_ok-put.ensures.pairs inv.mine;
      others = λ u apart. one_taken u _ _ c.in-Some.entry c.args.entries.items c.loop-entry.left.items c.pop.new.self.items c.give_back.new.entries.items c.in-Some.ensures.items c.give_back.ensures (c.in_ok-put.ensures.others u apart) (inv.others u apart);
    }

pub returns-clause-own : goal.returns-clause-own
returns-clause-own c = all_taken c.args.t _ c.args.entries.items c.loop-entry.left.items (search rules) c.loop-entry.invariant.mine

pub returns-clause-others : goal.returns-clause-others
returns-clause-others c = λ u apart. all_taken u _ c.args.entries.items c.loop-entry.left.items (search rules) (c.loop-entry.invariant.others u apart)
