use Rattle.std.proofs.Common.{◌∙◌, ap, arith, length}
use Rattle.std.proofs.lemmas.List.{length-append}
use Rattle.tree_files.specs.Count.{raised}
use Rattle.tree_overlay.specs.Told.{edited_told}
use Rattle.program_rounds.proofs.Coursing.{fork_more}
use Rattle.program_rounds.proofs.course.forks_after.Goals as goal

pub edited_fork-requires-after_bounds : goal.edited_fork-requires-after_bounds
edited_fork-requires-after_bounds g c κs within = c.requires

pub loop-preserved : goal.loop-preserved
loop-preserved g c =
    let inv = c.loop.invariant in
    let made = c.edited_fork.ensures in
    let new = c.in_ok-edited_fork.ensures in
    let items = c.in_ok-push.ensures.items in
    let long = ap length items in
    let many = inv.count in
    record {
      files = made.files_stay ∙ inv.files;
      faults = made.faults_stay ∙ inv.faults;
      lists = made.lists_stay ∙ inv.lists;
      count = omega (arith, simp length-append at long, many);
      forks = fork_more (λ fork. edited_told fork.edits (g.T.Tree.files fork.tree)) (λ fork. g.T.Tree.faults fork.tree) (λ fork. raised (g.T.Tree.lists fork.tree) fork.more) (edited_told c.args.edits.now (g.T.Tree.files c.args.tree.now))
          c.loop.forks.items c.push.new.self.items c.in_ok-edited_fork.field-0 items inv.forks (new.files ∙ ap (edited_told c.args.edits.now) inv.files) new.faults new.lists;
    }
