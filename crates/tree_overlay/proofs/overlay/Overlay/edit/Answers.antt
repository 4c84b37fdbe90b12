use Rattle.tree_overlay.proofs.Overlaid.{told_append}
use Rattle.tree_overlay.proofs.overlay.Overlay.edit.Goals as goal

pub returns-clause-files : goal.returns-clause-files
returns-clause-files g c =
    told_append (g.T.Tree.files c.args.self.now.tree) c.args.self.now.edits c.args.edits.now _ c.in_ok-all.ensures
