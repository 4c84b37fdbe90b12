use Rattle.std.proofs.Common.{◌∙◌, arith, rules}
use Rattle.tree_files.specs.Count.{raised}
use Rattle.tree_overlay.proofs.Rounds.{faults_step, lists_step, faults_end, lists_end}
use Rattle.tree_overlay.proofs.forks.absorb_forks.Goals as goal

pub loop-fork-preserved : goal.loop-fork-preserved
loop-fork-preserved g c =
    let inv = c.loop-fork.invariant in
    let took = c.absorb_fork.ensures in
    let grown = inv.grows in
    let grows = took.faults_grow in
    record {
      files = took.files_stay ∙ inv.files;
      grows = omega (arith, grown, grows);
      faults = λ new h. inv.faults new (faults_step (λ fork. g.T.Tree.faults fork.tree) _ _ _ _ _ new c.in-Some.ensures.items took.faults h);
      lists = λ new h. inv.lists new (lists_step (λ fork. raised (g.T.Tree.lists fork.tree) fork.more) _ _ _ _ _ new c.in-Some.ensures.items took.lists h);
    }

pub returns-clause-faults : goal.returns-clause-faults
returns-clause-faults g c =
    let now = g.T.Tree.faults c.loop-fork.tree in
    c.loop-fork.invariant.faults now (faults_end (λ fork. g.T.Tree.faults fork.tree) c.loop-fork.forks.items now (search rules))

pub returns-clause-lists : goal.returns-clause-lists
returns-clause-lists g c =
    let now = g.T.Tree.lists c.loop-fork.tree in
    c.loop-fork.invariant.lists now (lists_end (λ fork. raised (g.T.Tree.lists fork.tree) fork.more) c.loop-fork.forks.items now (search rules))
