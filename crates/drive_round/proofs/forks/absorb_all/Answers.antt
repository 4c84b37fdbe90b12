use Rattle.std.proofs.Common.{◌∷◌, [], ◌∙◌, map, ap, sym, arith}
use Rattle.std.specs.Prelude.{fold}
use Rattle.std.proofs.lemmas.List.{map-append}
use Rattle.drive_round.specs.Ran.{Counts, absorbed, counted}
use Rattle.drive_round.proofs.Threads.{fold-push}
use Rattle.drive_round.proofs.forks.absorb_all.Goals as goal

pub loop-fork-preserved : goal.loop-fork-preserved
loop-fork-preserved g c =
    let tally = counted g.T.Tree.faults g.T.Tree.lists in
    let inv = c.loop-fork.invariant in
    let took = c.absorb.ensures in
    let old = tally c.args.tree.now in
    record {
      files = took.files_stay ∙ inv.files;
      counts = (λ i. record { faults = took.faults i; lists = took.lists i }) ∙ (ap (λ (n : Counts). absorbed n (tally c.in-Some.fork)) inv.counts
          ∙ (sym (fold-push absorbed old (map tally c.loop-fork.yielded) (tally c.in-Some.fork)) ∙ ap (fold absorbed old) (sym (map-append tally c.loop-fork.yielded (c.in-Some.fork ∷ [])))));
      grows = let a = inv.grows in let b = took.faults_grow in omega (arith, a, b);
    }
