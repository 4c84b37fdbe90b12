use Rattle.std.proofs.Common.{◌∙◌, ◌+◌, sym, subst, List}
use Rattle.tree_files.specs.Count.{raised}
use Rattle.tree_files.specs.declared.edit.Edit.{Edit}
use Rattle.tree_overlay.specs.Kinds.{IsBelowRoot}
use Rattle.tree_overlay.specs.Told.{edited_told}
use Rattle.tree_overlay.proofs.Rounds.{edits_next, forks_next, below_front}
use Rattle.tree_overlay.proofs.forks.edited_forks.Goals as goal

pub edited_fork-requires-after_bounds : goal.edited_fork-requires-after_bounds
edited_fork-requires-after_bounds g c κs within =
    let i = c.loop-round.round-index in
    let rounds : List (List Edit) = c.args.rounds.now in
    let are = edits_next rounds i c.round-item.result c.loop-round.edits c.as_slice.result.now c.add_edits.new.edits c.loop-round-test.true c.round-item.is c.loop-round.invariant.edits c.as_slice.ensures c.in_ok-add_edits.ensures in
    subst IsBelowRoot (sym (c.as_slice-in-loop-round.ensures ∙ are)) (below_front (i + 1) rounds c.requires)

pub loop-round-preserved : goal.loop-round-preserved
loop-round-preserved g c =
    let i = c.loop-round.round-index in
    let rounds : List (List Edit) = c.args.rounds.now in
    let inv = c.loop-round.invariant in
    let made = c.edited_fork.ensures in
    let fork = c.in_ok-edited_fork.ensures in
    let are = edits_next rounds i c.round-item.result c.loop-round.edits c.as_slice.result.now c.add_edits.new.edits c.loop-round-test.true c.round-item.is inv.edits c.as_slice.ensures c.in_ok-add_edits.ensures in
    record {
      files = made.files_stay ∙ inv.files;
      faults = made.faults_stay ∙ inv.faults;
      lists = made.lists_stay ∙ inv.lists;
      edits = are;
      forks = forks_next (λ fork. edited_told fork.edits (g.T.Tree.files fork.tree)) (λ fork. g.T.Tree.faults fork.tree) (λ fork. raised (g.T.Tree.lists fork.tree) fork.more)
          (g.T.Tree.files c.args.tree.now) (g.T.Tree.files c.loop-round.tree) rounds i c.round-item.result c.as_slice-in-loop-round.result.now c.loop-round.forks.items c.push.new.self.items c.in_ok-edited_fork.field-0
          c.loop-round-test.true c.round-item.is inv.forks (c.as_slice-in-loop-round.ensures ∙ are) inv.files fork.files fork.faults fork.lists c.in_ok-push.ensures.items;
    }
