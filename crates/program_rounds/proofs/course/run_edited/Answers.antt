use Rattle.std.proofs.Common.{◌≡◌, ◌≤◌, ◌+◌, ◌∙◌, ℕ, subst}
use Rattle.tree_files.specs.Count.{raised}
use Rattle.tree_overlay.specs.Told.{edited_told}
use Rattle.tree_overlay.specs.Rounds.{Absorbed, total}
use Rattle.drive_round.specs.Ran.{counted}
use Rattle.program_rounds.proofs.Coursing.{took_by}
use Rattle.program_rounds.proofs.course.run_edited.Goals as goal

pub run_over-requires-clause-many : goal.run_over-requires-clause-many
run_over-requires-clause-many g c κs within = c.in-Ok.ensures.count ∙ (c.len.ensures ∙ c.args.programs.ok.0)

pub run_over-requires-clause-new : goal.run_over-requires-clause-new
run_over-requires-clause-new g c κs within = record { told = edited_told c.args.edits.now (g.T.Tree.files c.args.tree.now); all = c.in-Ok.ensures.forks }

pub returns-in-Ok-run_over-clause-ok : goal.returns-in-Ok-run_over-clause-ok
returns-in-Ok-run_over-clause-ok g c =
    let trees = c.in-Ok-run_over.over.trees.items in
    let took = c.absorb_forks.ensures in
    let made = c.forks_after.ensures in
    let now = c.absorb_forks.new.tree in
    record {
      counts = _;
      ran = c.in-Ok-run_over.ensures.ok (edited_told c.args.edits.now (g.T.Tree.files c.args.tree.now)) c.in-Ok.ensures.forks;
      took = took_by (λ fork. g.T.Tree.faults fork.tree) (λ fork. raised (g.T.Tree.lists fork.tree) fork.more) (counted g.T.Tree.faults g.T.Tree.lists c.args.tree.now) (counted g.T.Tree.faults g.T.Tree.lists now) trees
          (subst (λ (n : ℕ). Absorbed n (total (λ fork. g.T.Tree.faults fork.tree) trees) (g.T.Tree.faults now)) made.faults_stay took.faults)
          (subst (λ (n : ℕ). g.T.Tree.lists now ≤ n + total (λ fork. raised (g.T.Tree.lists fork.tree) fork.more) trees) made.lists_stay took.lists);
    }
