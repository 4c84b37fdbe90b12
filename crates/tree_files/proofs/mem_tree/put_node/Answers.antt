use Rattle.std.proofs.Common.{◌≡◌, sym, subst}
use Rattle.std.specs.FinMap.{insert}
use Rattle.tree_files.specs.Files.{IsTree}
use Rattle.tree_files.specs.MemFiles.{mem_files}
use Rattle.tree_files.proofs.EditLemmas.{IsTree-insert}
use Rattle.tree_files.proofs.mem_tree.put_node.Goals as goal

pub returns-clause-tree : goal.returns-clause-tree
returns-clause-tree c =
    let made : mem_files c.put.new.self ≡ insert (mem_files c.args.nodes.now) c.args.path.now c.args.node =
    rw c.in_ok-copy.ensures at c.in_ok-put.ensures.ok in
    subst IsTree (sym made) (IsTree-insert _ _ c.args.node c.requires.tree c.requires.keeps_dirs c.requires.parent)
