use Rattle.std.proofs.Common.{◌∙◌, map, ap, sym}
use Rattle.std.specs.Prelude.{fold}
use Rattle.drive_round.specs.Ran.{Counts, absorbed, counted}
use Rattle.drive_round.proofs.forks.run_round.Goals as goal

pub run_over-requires-clause-many : goal.run_over-requires-clause-many
run_over-requires-clause-many g c κs within = c.in-Ok.ensures.count ∙ (c.len.ensures ∙ c.args.programs.ok.0)

pub run_over-requires-clause-new : goal.run_over-requires-clause-new
run_over-requires-clause-new g c κs within = record { told = g.T.Tree.files c.args.tree.now; all = c.in-Ok.ensures.forks }

pub returns-in-Ok-run_over-clause-ok : goal.returns-in-Ok-run_over-clause-ok
returns-in-Ok-run_over-clause-ok g c =
    let tally = counted g.T.Tree.faults g.T.Tree.lists in
    let ran = c.in-Ok-run_over.ensures.ok (g.T.Tree.files c.args.tree.now) c.in-Ok.ensures.forks in
    let made = c.fork_all.ensures in
    record {
      written = ran.written;
      legal = ran.legal;
      counts = map tally c.in-Ok-run_over.over.trees.items;
      threads = ran.threads;
      absorbs = c.absorb_all.ensures.counts ∙ ap (λ (n : Counts). fold absorbed n (map tally c.in-Ok-run_over.over.trees.items)) (λ i. record { faults = made.faults i; lists = made.lists i });
    }
